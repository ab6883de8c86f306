-- Hashes as text.
use Rattle.std.proofs.Common.{◌≡◌, ℕ, ◌<◌, List, [], ◌∷◌, ◌++◌, length, flat_map, refl, sym, ap, ◌∙◌, subst, arith, append-nil}
use Rattle.std.proofs.lemmas.Grind.{flat_map-append}
use Rattle.sk_model.specs.Murmur.{hash_of}
use Rattle.sk_model.specs.Limits.{line_limit}
use Rattle.sk_model.specs.Lines.{AreWithin, filled}
use Rattle.sk_model.proofs.Lines.{filled_append, filled_of_one, filled_of_empty}
use Rattle.sk_model.specs.Missing.{Begins}
use Rattle.sk_cli.specs.Answering.{ByLines, GoesByAnswers, Answers}
use Rattle.sk_cli.specs.Beside.{Beside}
use Rattle.sk_cli.specs.declared.commands.hash.HashPlan.{HashPlan}
use Rattle.sk_lines.specs.Hashes.{hash_line}
use Rattle.sk_cli.specs.commands.Hash.{hash_text, hashing}
use Rattle.sk_cli.proofs.Endings.{none_within}

pub hash_text_append : (seed : ℕ) (xs ys : List (List ℕ)) → hash_text seed (xs ++ ys) ≡ hash_text seed xs ++ hash_text seed ys
unfolding hash_text
hash_text_append seed xs ys =
    ap (λ (l : List (List ℕ)). flat_map (λ (line : List ℕ). hash_line (hash_of seed line)) l) (filled_append xs ys)
    ∙ flat_map-append (λ (line : List ℕ). hash_line (hash_of seed line)) (filled xs) (filled ys)

pub hash_text_one : (seed : ℕ) (line : List ℕ) → 0 < length line → hash_text seed (line ∷ []) ≡ hash_line (hash_of seed line)
unfolding hash_text
hash_text_one seed line some =
    ap (λ (l : List (List ℕ)). flat_map (λ (line : List ℕ). hash_line (hash_of seed line)) l) (filled_of_one line some)
    ∙ append-nil (hash_line (hash_of seed line))

pub hash_text_empty : (seed : ℕ) (line : List ℕ) → length line ≡ 0 → hash_text seed (line ∷ []) ≡ []
unfolding hash_text
hash_text_empty seed [] none = ap (λ (l : List (List ℕ)). flat_map (λ (line : List ℕ). hash_line (hash_of seed line)) l) filled_of_empty
hash_text_empty seed (byte ∷ line) none = absurd (omega arith)

pub no_hash_text : (seed : ℕ) → hash_text seed [] ≡ []
unfolding hash_text filled
no_hash_text seed = refl

hash_text_front : (seed : ℕ) (lines rest : List (List ℕ)) (due : List ℕ) → due ≡ hash_text seed (lines ++ rest) → Begins (hash_text seed lines) due
hash_text_front seed lines rest due is = (hash_text seed rest, is ∙ hash_text_append seed lines rest)

-- `hash` examines line by line
pub hash_by_lines : (plan : HashPlan) (from to : Beside) → ByLines (hashing plan) from to (λ lines due. due ≡ hash_text plan.seed lines)
hash_by_lines plan from to = record {
  reads_it = refl;
  fine = λ taken due within is. within;
  so_far = λ taken due is. is;
  before = λ n text due within is. (n, within, is);
  long = λ n text due long is. (long, is);
  front = λ lines rest due is. (hash_text plan.seed lines, refl, hash_text_front plan.seed lines rest due is);
}

pub no_hash_yet : (plan : HashPlan) (from to : Beside) (text : List ℕ) → (hashing plan).IsDueBefore from to text (hash_text plan.seed [])
no_hash_yet plan from to text = (0, none_within, refl)

-- it goes on from any lines by the hashes of further ones
pub hashes_go : (plan : HashPlan) (from to : Beside) (given : List (List ℕ)) → GoesByAnswers (hashing plan) from to (λ lines text. text ≡ hash_text plan.seed lines) (λ lines line. ⊥) given
hashes_go plan from to given = record {
  by_lines = hash_by_lines plan from to;
  whole = λ more due is text same within. (subst (AreWithin line_limit) (sym same) within, is ∙ ap (λ (l : List (List ℕ)). hash_text plan.seed l) (sym same), tt);
  refused = λ lines line due is bad. absurd bad;
}

-- a line was answered by its hash, or by nothing
pub hash_answers : (seed : ℕ) (line said old new : List ℕ) → said ≡ hash_text seed (line ∷ []) → new ≡ old ++ said → Answers (λ lines text. text ≡ hash_text seed lines) (λ lines text. text ≡ hash_text seed lines) line old new
hash_answers seed line said old new is text = record {
  said = said;
  text = text;
  on = λ lines due due_is. ap (λ (t : List ℕ). t ++ said) due_is ∙ ap (λ (t : List ℕ). hash_text seed lines ++ t) is ∙ sym (hash_text_append seed lines (line ∷ []));
}
