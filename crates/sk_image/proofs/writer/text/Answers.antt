use Rattle.std.proofs.Common.{◌≡◌, ◌<◌, ◌≤◌, ℕ, List, ◌∷◌, ◌++◌, length, vec_len, map, take, get_or, codes, sym, ap, ◌∙◌, arith}
use Rattle.std.proofs.lemmas.List.{take_all}
use Rattle.sk_image.specs.Images.{first_line, hash_text, last_line, joined}
use Rattle.sk_image.proofs.Joins.{joined_one, hashes_more, text_is}
use Rattle.sk_image.proofs.writer.text.Goals as goal

pub hash-init : goal.hash-init
hash-init c =
    c.in_ok-push_line.ensures ∙ ap (λ (t : List ℕ). t ++ (take c.put_first_line-len.result c.put_first_line-len.new.into ++ codes "\n")) c.new-text.ensures.items
    ∙ ap (λ (l : List ℕ). l ++ codes "\n") c.put_first_line-len.ensures.text ∙ sym (joined_one _)

pub hash-preserved : goal.hash-preserved
hash-preserved c =
    let image = c.args.image.now in
    let items = image.hashes.items in
    let first = first_line image.version image.k image.seed in
    let same : c.deref-hash-items.result.now ≡ items = c.deref-hash-items.ensures.value in
    let below : c.hash.hash-index < length items = omega (arith, c.hash-test.true, ap length same) in
    c.in_ok-push_hash.ensures
    ∙ ap (λ (t : List ℕ). t ++ (hash_text image.version (get_or c.deref-hash-items.result.now c.hash.hash-index 0) ++ codes "\n")) c.hash.invariant
    ∙ ap (λ (hs : List ℕ). joined (first ∷ map (hash_text image.version) (take c.hash.hash-index items)) ++ (hash_text image.version (get_or hs c.hash.hash-index 0) ++ codes "\n")) same
    ∙ sym (hashes_more image.version first items c.hash.hash-index below)

pub returns : goal.returns
returns c =
    let image = c.args.image.now in
    let items = image.hashes.items in
    let first = first_line image.version image.k image.seed in
    let same : c.deref-hash-items.result.now ≡ items = c.deref-hash-items.ensures.value in
    let size : vec_len image.hashes ≡ length items = omega (arith, image.hashes.ok.0) in
    let over : length items ≤ c.hash.hash-index = omega (arith, c.hash-test.false, ap length same) in
    c.in_ok-push_line-2.ensures
    ∙ ap (λ (t : List ℕ). t ++ (c.as_bytes.result.now ++ codes "\n")) (c.hash.invariant ∙ ap (λ (hs : List ℕ). joined (first ∷ map (hash_text image.version) hs)) (take_all c.hash.hash-index items over))
    ∙ ap (λ (l : List ℕ). joined (first ∷ map (hash_text image.version) items) ++ (l ++ codes "\n")) (c.as_bytes.ensures.value ∙ c.in_ok-last.ensures ∙ ap last_line (c.len.ensures ∙ size))
    ∙ sym (text_is image.version image.k image.seed items)
