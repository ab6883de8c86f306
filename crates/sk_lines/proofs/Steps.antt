-- What a step of the reader does to the lines given.
use Rattle.std.proofs.Common.{◌≡◌, ◌≢◌, ℕ, ◌+◌, ◌-◌, ◌<◌, ◌≤◌, ◌==◌, inr, ⊎_elim, le_refl, take_at, take-take, take-add, true≢false, Bool, true, false, cond, List, [], ◌∷◌, ◌++◌, length, take, drop, get_or, slice_index, refl, sym, ap, ◌∙◌, subst, arith, append_assoc, append-nil, length-append, length-take, length-drop, take-append-drop, get_or-take, get_or-drop, drop-drop, eqb-true}
use Rattle.std.specs.Str.Lines.{strip_carriage_return}
use Rattle.std.proofs.lemmas.List.{drop_more, drop-take, take_more, take_all, get_or_default, get_or_at, get_or_append_left}
use Rattle.std.proofs.lemmas.Bool.{cases_lt}
use Rattle.sk_model.specs.Lines.{lines_of, open_lines_of, AreWithin, IsFirstLong}
use Rattle.sk_model.specs.Missing.{Begins}
use Rattle.sk_lines.specs.Spans.{IsLongLine}
use Rattle.sk_lines.specs.Marks.{KnowsLfs, IsFirstLf, TakesLf}
use Rattle.sk_model.proofs.Lines.{lines_of_nothing, after_whole_lines, first_line, a_line_alone, a_last_piece, within_append, within_one, long_after_front, long_stays_long, length-strip}
use Rattle.sk_lines.specs.declared.cutter.Ending.{Ending}
use Rattle.sk_lines.specs.declared.cutter.Next.{Next}
use Rattle.sk_lines.specs.declared.cutter.Next.TheVariants.{Line, More, Long}
use Rattle.sk_lines.specs.Cutter.{Cutter, IsSound, is_long, Follows, GivesLine, Waits, IsLongAfter, HasNoLf, HasLfAt, counted, end_bytes}

-- the first LF of a text
pub lf_at : (text : List ℕ) (place : ℕ) → place < length text → slice_index text place ≡ 10 → ((k : ℕ) → k < place → slice_index text k ≢ 10) → HasLfAt text place
lf_at text place within lf before = record {
  piece = λ k d below is.
      let inside : k < place = omega (arith, length-take place text) in
      before k inside (get_or_default text k 0 d (omega arith) ∙ sym (get_or-take place text k d inside) ∙ is);
  within = within;
  split = sym (take-append-drop place text) ∙ ap (λ (l : List ℕ). take place text ++ l)
      (drop_more text place 0 within ∙ ap (λ (byte : ℕ). byte ∷ drop (place + 1) text) lf);
}

-- a text after place `at` of a buffer, of which `have` bytes are text
module _ (bytes : List ℕ) (at have : ℕ) (ordered : at ≤ have) (inside : have ≤ length bytes) where
  abbrev rest : List ℕ
  rest = take (have - at) (drop at bytes)

  pub length_rest : length rest ≡ have - at
  length_rest = omega (arith, length-take (have - at) (drop at bytes), length-drop at bytes)

  pub rest_byte : (k : ℕ) → k < have - at → slice_index rest k ≡ slice_index bytes (at + k)
  rest_byte k below = get_or-take (have - at) (drop at bytes) k 0 below ∙ get_or-drop at bytes k 0

  pub front_of_rest : (n : ℕ) → n ≤ have - at → take n rest ≡ take n (drop at bytes)
  front_of_rest n fits = take-take n (have - at) (drop at bytes) fits

  pub rest_behind : (n : ℕ) → at + n ≤ have → take (have - (at + n)) (drop (at + n) bytes) ≡ drop n rest
  rest_behind n fits =
      let m = have - (at + n) in
      let size : have - at ≡ n + m = omega arith in
      sym (ap (λ (k : ℕ). drop n (take k (drop at bytes))) size ∙ drop-take n m (drop at bytes) ∙ ap (take m) (drop-drop n at bytes))

  -- a byte that is no padding is text
  pub lf_in_rest : (end : ℕ) → IsFirstLf bytes at end → ((i : ℕ) → have ≤ i → slice_index bytes i ≡ 0) → HasLfAt rest (end - at)
  lf_in_rest end first zeros =
      let from : at ≤ end = first.from in
      let text : end < have = ⊎_elim (λ (below : end < have). below) (λ (past : have ≤ end). absurd (omega (arith, zeros end past, first.lf))) (cases_lt end have) in
      let place : at + (end - at) ≡ end = omega arith in
      lf_at rest (end - at) (omega (arith, length_rest))
      (rest_byte (end - at) (omega arith) ∙ ap (slice_index bytes) place ∙ first.lf)
      (λ k below is. first.before (at + k) (omega arith) (omega arith) (sym (rest_byte k (omega arith)) ∙ is))

  pub no_lf_in_rest : ((i : ℕ) → at ≤ i → i < have → slice_index bytes i ≢ 10) → HasNoLf rest
  no_lf_in_rest none = λ k d below is.
      let text : k < have - at = omega (arith, length_rest) in
      none (at + k) (omega arith) (omega arith) (sym (rest_byte k text) ∙ get_or_default rest k 0 d below ∙ is)

-- a text followed so far, of which more lines are read: the lines of the rest come after those given
pub lines_behind : (c : Cutter) (given : List (List ℕ)) (text more : List ℕ) → Follows c given text → lines_of (text ++ more) ≡ given ++ lines_of (c.rest ++ more)
lines_behind c given text more f =
    ap (λ (t : List ℕ). lines_of (t ++ more)) f.joined ∙ ap lines_of (append_assoc f.front c.rest more)
    ∙ after_whole_lines f.front (c.rest ++ more) f.whole ∙ ap (λ (ls : List (List ℕ)). ls ++ lines_of (c.rest ++ more)) f.lines

pub lines_at_end : (c : Cutter) (given : List (List ℕ)) (text : List ℕ) → Follows c given text → lines_of text ≡ given ++ lines_of c.rest
lines_at_end c given text f =
    ap lines_of (sym (append-nil text)) ∙ lines_behind c given text [] f ∙ ap (λ (t : List ℕ). given ++ lines_of t) (append-nil c.rest)

pub follows_line : (old new : Cutter) (place : ℕ) → HasLfAt old.rest place → new.limit ≡ old.limit → new.rest ≡ drop (place + 1) old.rest
    → new.number ≡ counted (old.number + 1) → new.line ≡ strip_carriage_return (take place old.rest) → length new.line ≤ old.limit
    → (given : List (List ℕ)) (text : List ℕ) → Follows old given text → Follows new (given ++ new.line ∷ []) text
follows_line old new place lf limit rest number line fits given text f =
    let piece : List ℕ = take place old.rest in
    let ends : List ℕ = piece ++ 10 ∷ [] in
    let parted : old.rest ≡ ends ++ new.rest =
    lf.split ∙ sym (append_assoc piece (10 ∷ []) (drop (place + 1) old.rest)) ∙ ap (λ (l : List ℕ). ends ++ l) (sym rest) in
    record {
      front = f.front ++ ends;
      joined = f.joined ∙ ap (λ (l : List ℕ). f.front ++ l) parted ∙ sym (append_assoc f.front ends new.rest);
      whole = inr (f.front ++ piece, sym (append_assoc f.front piece (10 ∷ [])));
      lines = after_whole_lines f.front ends f.whole ∙ ap (λ (ls : List (List ℕ)). ls ++ lines_of ends) f.lines
          ∙ ap (λ (ls : List (List ℕ)). given ++ ls) (a_line_alone piece lf.piece ∙ ap (λ (l : List ℕ). l ∷ []) (sym line));
      count = omega (arith, f.count, length-append given (new.line ∷ []));
      within = subst (λ (n : ℕ). AreWithin n (given ++ new.line ∷ [])) (sym limit)
          (within_append old.limit given (new.line ∷ []) f.within (within_one old.limit new.line fits));
    }

pub waits_for_more : (old new : Cutter) → HasNoLf old.rest → length (strip_carriage_return old.rest) ≤ old.limit
    → new.limit ≡ old.limit → new.rest ≡ old.rest → new.number ≡ old.number
    → (given : List (List ℕ)) (text : List ℕ) → Follows old given text → Waits new given text
waits_for_more old new none fits limit rest number given text f =
    let lines : open_lines_of text ≡ given ++ strip_carriage_return old.rest ∷ [] =
    lines_behind old given text (10 ∷ []) f ∙ ap (λ (ls : List (List ℕ)). given ++ ls) (a_line_alone old.rest none) in
    record {
      follows = record {
        front = f.front;
        joined = f.joined ∙ ap (λ (l : List ℕ). f.front ++ l) (sym rest);
        whole = f.whole;
        lines = f.lines;
        count = number ∙ f.count;
        within = subst (λ (n : ℕ). AreWithin n given) (sym limit) f.within;
      };
      lines = lines ∙ ap (λ (l : List ℕ). given ++ strip_carriage_return l ∷ []) (sym rest);
      within = subst (λ (n : ℕ). AreWithin n (open_lines_of text)) (sym limit) (subst (AreWithin old.limit) (sym lines)
          (within_append old.limit given (strip_carriage_return old.rest ∷ []) f.within (within_one old.limit _ fits)));
    }

first_is_long : (limit : ℕ) (line : List ℕ) (later : List (List ℕ)) → limit < length line → IsFirstLong limit 0 (line ∷ later)
first_is_long limit line later over = long_after_front limit [] line later (λ k d below. absurd (omega arith)) over

-- a line that an LF ends is too long
pub long_before_lf : (limit place : ℕ) (rest : List ℕ) → HasLfAt rest place → limit < length (strip_carriage_return (take place rest)) → IsFirstLong limit 0 (open_lines_of rest)
long_before_lf limit place rest lf over =
    let piece : List ℕ = take place rest in
    let after : List ℕ = drop (place + 1) rest ++ 10 ∷ [] in
    let is : open_lines_of rest ≡ strip_carriage_return piece ∷ lines_of after =
    ap open_lines_of lf.split ∙ ap lines_of (append_assoc piece (10 ∷ drop (place + 1) rest) (10 ∷ [])) ∙ first_line piece after lf.piece in
    subst (IsFirstLong limit 0) (sym is) (first_is_long limit (strip_carriage_return piece) (lines_of after) over)

-- the same, where it lies in a buffer
pub long_in_rest : (bytes : List ℕ) (at have : ℕ) → at ≤ have → have ≤ length bytes → (limit : ℕ) → IsLongLine bytes limit at → ((i : ℕ) → have ≤ i → slice_index bytes i ≡ 0) → IsFirstLong limit 0 (open_lines_of (take (have - at) (drop at bytes)))
long_in_rest bytes at have ordered inside limit (end, first, over) zeros =
    let rest : List ℕ = take (have - at) (drop at bytes) in
    let lf = lf_in_rest bytes at have ordered inside end first zeros in
    let piece = front_of_rest bytes at have ordered inside (end - at) (omega (arith, lf.within, length_rest bytes at have ordered inside)) in
    long_before_lf limit (end - at) rest lf (omega (arith, over, ap (λ (l : List ℕ). length (strip_carriage_return l)) piece))

-- the piece after the last LF is too long, whatever follows
pub long_so_far : (limit : ℕ) (rest : List ℕ) → HasNoLf rest → limit < length (strip_carriage_return rest) → IsFirstLong limit 0 (open_lines_of rest)
long_so_far limit rest none over = subst (IsFirstLong limit 0) (sym (a_line_alone rest none)) (first_is_long limit (strip_carriage_return rest) [] over)

-- the last piece is too long
pub long_at_end : (limit : ℕ) (rest : List ℕ) → HasNoLf rest → limit < length rest → IsFirstLong limit 0 (lines_of rest)
long_at_end limit rest none over = subst (IsFirstLong limit 0) (sym (a_last_piece rest none (omega arith))) (first_is_long limit rest [] over)

-- what is too long at the start is so after the lines given
long_behind : (limit : ℕ) (given lines : List (List ℕ)) → AreWithin limit given → IsFirstLong limit 0 lines → IsFirstLong limit (length given) (given ++ lines)
long_behind limit given [] fits long = absurd (omega (arith, long.0))
long_behind limit given (line ∷ later) fits long = long_after_front limit given line later fits long.2

pub is_long_open : (c : Cutter) (n : ℕ) → n ≡ counted (c.number + 1) → IsFirstLong c.limit 0 (open_lines_of c.rest)
    → (given : List (List ℕ)) (text : List ℕ) → Follows c given text → IsLongAfter c.limit n given (open_lines_of text)
is_long_open c n number long given text f = record {
  number = omega (arith, f.count);
  first = subst (IsFirstLong c.limit (length given)) (sym (lines_behind c given text (10 ∷ []) f))
      (long_behind c.limit given (open_lines_of c.rest) f.within long);
}

pub is_long_ended : (c : Cutter) (n : ℕ) → n ≡ counted (c.number + 1) → IsFirstLong c.limit 0 (lines_of c.rest)
    → (given : List (List ℕ)) (text : List ℕ) → Follows c given text → IsLongAfter c.limit n given (lines_of text)
is_long_ended c n number long given text f = record {
  number = omega (arith, f.count);
  first = subst (IsFirstLong c.limit (length given)) (sym (lines_at_end c given text f))
      (long_behind c.limit given (lines_of c.rest) f.within long);
}

pub long_stays : (limit : ℕ) (rest : List ℕ) → IsFirstLong limit 0 (open_lines_of rest) → IsFirstLong limit 0 (lines_of rest)
long_stays limit rest long = subst (λ (l : List ℕ). IsFirstLong limit 0 (lines_of l)) (append-nil rest) (long_stays_long limit 0 rest [] long)

-- the last piece is the last line
pub last_line : (c : Cutter) (line : List ℕ) → HasNoLf c.rest → 0 < length c.rest → line ≡ c.rest
    → (given : List (List ℕ)) (text : List ℕ) → Follows c given text → lines_of text ≡ given ++ line ∷ []
last_line c line none some is given text f =
    lines_at_end c given text f ∙ ap (λ (ls : List (List ℕ)). given ++ ls) (a_last_piece c.rest none some ∙ ap (λ (l : List ℕ). l ∷ []) (sym is))

pub last_within : (c : Cutter) → HasNoLf c.rest → 0 < length c.rest → length c.rest ≤ c.limit
    → (given : List (List ℕ)) (text : List ℕ) → Follows c given text → AreWithin c.limit (lines_of text)
last_within c none some fits given text f =
    subst (AreWithin c.limit) (sym (last_line c c.rest none some refl given text f))
    (within_append c.limit given (c.rest ∷ []) f.within (within_one c.limit c.rest fits))

-- without a last piece the lines given are all
pub no_last_line : (c : Cutter) → c.rest ≡ [] → (given : List (List ℕ)) (text : List ℕ) → Follows c given text → lines_of text ≡ given
no_last_line c none given text f =
    lines_at_end c given text f ∙ ap (λ (l : List ℕ). given ++ lines_of l) none ∙ ap (λ (ls : List (List ℕ)). given ++ ls) lines_of_nothing ∙ append-nil given

-- what a line loses at its end is one CR
pub record Stripped (piece line : List ℕ) : Type 0 where
  pub by_cr : length line < length piece → piece ≡ line ++ 13 ∷ []
  pub alone : length piece ≤ length line → piece ≡ line

stripped_by : (piece : List ℕ) (b : Bool) → (slice_index piece (length piece - 1) == 13) ≡ b → Stripped piece (cond b (take (length piece - 1) piece) piece)
stripped_by piece true is = record {
  by_cr = λ less.
      let n = length piece - 1 in
      let some : n < length piece = omega (arith, length-take n piece) in
      sym (take_all (n + 1) piece (omega arith)) ∙ take_more piece n 0 some ∙ ap (λ (byte : ℕ). take n piece ++ byte ∷ []) (eqb-true _ 13 is);
  alone = λ most.
      let n = length piece - 1 in
      let none : length piece ≡ 0 = omega (arith, length-take n piece) in
      sym (take_all n piece (omega arith));
}
stripped_by piece false is = record {
  by_cr = λ less. absurd (omega arith);
  alone = λ most. refl;
}

pub stripped : (piece : List ℕ) → Stripped piece (strip_carriage_return piece)
stripped piece = stripped_by piece (slice_index piece (length piece - 1) == 13) refl

-- how many bytes a line keeps shows how it ended
pub data EndsBy (len place : ℕ) (ending : Ending) : Type 0 where
  by_cr_lf : len < place → ending ≡ Ending.CrLf → EndsBy len place ending
  by_lf : place ≤ len → ending ≡ Ending.Lf → EndsBy len place ending

bytes_of : (piece line after : List ℕ) (ending : Ending) → Stripped piece line → EndsBy (length line) (length piece) ending → piece ++ 10 ∷ after ≡ line ++ end_bytes ending ++ after
bytes_of piece line after ending s (by_cr_lf less is) =
    ap (λ (l : List ℕ). l ++ 10 ∷ after) (s.by_cr less) ∙ append_assoc line (13 ∷ []) (10 ∷ after)
    ∙ sym (append_assoc line (13 ∷ 10 ∷ []) after) ∙ ap (λ (e : Ending). line ++ end_bytes e ++ after) (sym is)
bytes_of piece line after ending s (by_lf most is) =
    ap (λ (l : List ℕ). l ++ 10 ∷ after) (s.alone most) ∙ sym (append_assoc line (10 ∷ []) after) ∙ ap (λ (e : Ending). line ++ end_bytes e ++ after) (sym is)

not_nothing : (len place : ℕ) (ending : Ending) → EndsBy len place ending → ending ≢ Ending.Nothing
not_nothing len place ending (by_cr_lf less is) = λ none. cc
not_nothing len place ending (by_lf most is) = λ none. cc

lf_byte : (text : List ℕ) (place : ℕ) → HasLfAt text place → slice_index text place ≡ 10
lf_byte text place lf =
    ap (λ (l : List ℕ). get_or l place 0) lf.split ∙ get_or_at (take place text) 10 (drop (place + 1) text) 0 place (omega (arith, length-take place text, lf.within))

-- the bytes up to an LF, with it
up_to_lf : (text line : List ℕ) (place : ℕ) (ending : Ending) → HasLfAt text place → Stripped (take place text) line → EndsBy (length line) (length (take place text)) ending → take (place + 1) text ≡ line ++ end_bytes ending
up_to_lf text line place ending lf s e =
    take_more text place 0 lf.within ∙ ap (λ (byte : ℕ). take place text ++ byte ∷ []) (lf_byte text place lf)
    ∙ bytes_of (take place text) line [] ending s e ∙ append-nil (line ++ end_bytes ending)

plain_front : (line more : List ℕ) → HasNoLf (line ++ more) → HasNoLf line
plain_front line more none = λ k d below is. none k d (omega (arith, length-append line more)) (get_or_append_left line more d k below ∙ is)

plain_line : (piece line : List ℕ) → Stripped piece line → HasNoLf piece → HasNoLf line
plain_line piece line s none = ⊎_elim (λ (less : length line < length piece). plain_front line (13 ∷ []) (subst HasNoLf (s.by_cr less) none))
    (λ (most : length piece ≤ length line). subst HasNoLf (s.alone most) none) (cases_lt (length line) (length piece))

pub gives_line : (old new : Cutter) (place : ℕ) → HasLfAt old.rest place → new.limit ≡ old.limit → new.rest ≡ drop (place + 1) old.rest
    → new.number ≡ counted (old.number + 1) → new.line ≡ strip_carriage_return (take place old.rest) → length new.line ≤ old.limit
    → EndsBy (length new.line) place new.ending → new.front ≡ old.front ++ take (place + 1) old.rest → GivesLine old new
gives_line old new place lf limit rest number line fits ends front =
    let piece : List ℕ = take place old.rest in
    let size : length piece ≡ place = omega (arith, length-take place old.rest, lf.within) in
    let s : Stripped piece new.line = subst (Stripped piece) (sym line) (stripped piece) in
    let e : EndsBy (length new.line) (length piece) new.ending = subst (λ (n : ℕ). EndsBy (length new.line) n new.ending) (sym size) ends in
    record {
      follows = follows_line old new place lf limit rest number line fits;
      number = number;
      bytes = lf.split ∙ bytes_of piece new.line (drop (place + 1) old.rest) new.ending s e ∙ ap (λ (l : List ℕ). new.line ++ end_bytes new.ending ++ l) (sym rest);
      front = front ∙ ap (λ (l : List ℕ). old.front ++ l) (up_to_lf old.rest new.line place new.ending lf s e);
      ending = not_nothing (length new.line) place new.ending ends;
      plain = plain_line piece new.line s lf.piece;
      shorter = omega (arith, ap length rest, length-drop (place + 1) old.rest, lf.within);
    }

lf_stands : (text : List ℕ) (place : ℕ) → HasLfAt text place → ¬ HasNoLf text
lf_stands text place lf none = none place 0 lf.within (lf_byte text place lf)

pub sound_line : (old new : Cutter) (place : ℕ) → IsSound old → HasLfAt old.rest place → is_long old.last ≡ false → new.hungry ≡ old.hungry → new.ended ≡ old.ended → new.last ≡ Next.Line → IsSound new
sound_line old new place sound lf going hungry ended last = record {
  piece = λ h. absurd (lf_stands old.rest place lf (sound.piece (sym hungry ∙ h)));
  fits = λ h. absurd (lf_stands old.rest place lf (sound.piece (sym hungry ∙ h)));
  number = λ n long. absurd (cc);
  open_long = λ n long _. absurd (cc);
  ended_long = λ n long _. absurd (cc);
  ended = λ over _. absurd (omega (arith, ap length (sound.ended (sym ended ∙ over) going), lf.within));
}

pub sound_more : (old new : Cutter) → IsSound old → HasNoLf old.rest → length (strip_carriage_return old.rest) ≤ old.limit → is_long old.last ≡ false
    → new ≡ record old { last = Next.More; hungry = true } → IsSound new
sound_more old new sound none fits going is = subst IsSound (sym is) (record {
  piece = λ _. none;
  fits = λ _. fits;
  number = λ n long. absurd (cc);
  open_long = λ n long _. absurd (cc);
  ended_long = λ n long _. absurd (cc);
  ended = λ over _. sound.ended over going;
})

pub sound_stop : (c : Cutter) (n : ℕ) → n ≡ counted (c.number + 1) → IsSound c → c.ended ≡ false → IsFirstLong c.limit 0 (open_lines_of c.rest) → IsSound (record c { last = Next.Long n })
sound_stop c n number sound going long = record {
  piece = sound.piece;
  fits = sound.fits;
  number = λ m is. let same : n ≡ m = cc in sym same ∙ number;
  open_long = λ m is _. long;
  ended_long = λ m is over. absurd (true≢false (sym over ∙ going));
  ended = λ over _. absurd (true≢false (sym over ∙ going));
}

-- what holds bytes is not at its end
pub goes_on : (c : Cutter) → IsSound c → is_long c.last ≡ false → 0 < length c.rest → c.ended ≡ false
goes_on c sound going some = elim c.ended as (λ b. c.ended ≡ b → b ≡ false) [
  | true ↦ λ over. absurd (omega (arith, ap length (sound.ended over going)))
  | false ↦ λ _. refl
] refl

-- what was reported as too long is so, whether the text ends or continues
long_now_by : (c : Cutter) (n : ℕ) (ended : Bool) → c.ended ≡ ended → IsSound c → c.last ≡ Next.Long n → IsFirstLong c.limit 0 (lines_of c.rest)
long_now_by c n true is sound long = sound.ended_long n long is
long_now_by c n false is sound long = long_stays c.limit c.rest (sound.open_long n long is)

pub long_now : (c : Cutter) (n : ℕ) → IsSound c → c.last ≡ Next.Long n → IsFirstLong c.limit 0 (lines_of c.rest)
long_now c n sound long = long_now_by c n c.ended refl sound long

pub long_is_some : (limit : ℕ) (rest : List ℕ) → IsFirstLong limit 0 (lines_of rest) → rest ≡ [] → ⊥
long_is_some limit rest long none = omega (arith, long.0, ap length (ap lines_of none ∙ lines_of_nothing))

pub sound_ended : (c : Cutter) (n : ℕ) → IsSound c → c.last ≡ Next.Long n → IsSound (record c { ended = true })
sound_ended c n sound long = record {
  piece = sound.piece;
  fits = sound.fits;
  number = sound.number;
  open_long = λ m is going. absurd (cc);
  ended_long = λ m is over. long_now c m sound is;
  ended = λ over going. absurd (true≢false (sym (ap is_long long) ∙ going));
}

pub sound_end_long : (c : Cutter) (n : ℕ) → n ≡ counted (c.number + 1) → IsSound c → c.hungry ≡ true → c.limit < length c.rest → IsSound (record c { last = Next.Long n; ended = true })
sound_end_long c n number sound hungry over = record {
  piece = sound.piece;
  fits = sound.fits;
  number = λ m is. let same : n ≡ m = cc in sym same ∙ number;
  open_long = λ m is going. absurd (cc);
  ended_long = λ m is _. long_at_end c.limit c.rest (sound.piece hungry) over;
  ended = λ _ going. absurd (cc);
}

pub not_long : (last : Next) → ((n : ℕ) → last ≡ Next.Long n → ⊥) → is_long last ≡ false
not_long Line other = refl
not_long More other = refl
not_long (Long n) other = absurd (other n refl)

pub front_of : (piece line : List ℕ) → line ≡ strip_carriage_return piece → take (length line) piece ≡ line
front_of piece line is =
    let s : Stripped piece line = subst (Stripped piece) (sym is) (stripped piece) in
    ⊎_elim
    (λ less. ap (λ (l : List ℕ). take (length line) l) (s.by_cr less) ∙ take_at line (13 ∷ []) (length line) refl)
    (λ most. ap (λ (l : List ℕ). take (length line) l) (s.alone most) ∙ take_all (length line) line (le_refl (length line)))
    (cases_lt (length line) (length piece))

pub taken_line : (rest line : List ℕ) (place : ℕ) → line ≡ strip_carriage_return (take place rest) → take (length line) rest ≡ line
taken_line rest line place is =
    let piece : List ℕ = take place rest in
    let short : length line ≤ length piece = omega (arith, ap length is, length-strip piece) in
    let less : length line ≤ place = omega (arith, length-take place rest) in
    sym (take-take (length line) place rest less) ∙ front_of piece line is

pub given_lines_stay : (c : Cutter) (given : List (List ℕ)) (text more : List ℕ) → Follows c given text → Begins given (lines_of (text ++ more))
given_lines_stay c given text more f = (lines_of (c.rest ++ more), lines_behind c given text more f)

pub long_after_stays : (limit n : ℕ) (given : List (List ℕ)) (text more : List ℕ) → IsLongAfter limit n given (open_lines_of text) → IsLongAfter limit n given (lines_of (text ++ more))
long_after_stays limit n given text more long = record {
  number = long.number;
  first = long_stays_long limit (length given) text more long.first;
}

-- the rest, as a slice of the buffer
pub same_rest : (slice bytes : List ℕ) (at n m : ℕ) → n ≡ m → slice ≡ bytes → take (n - 64 - at) (drop at slice) ≡ take (m - 64 - at) (drop at bytes)
same_rest slice bytes at n m size same = ap (λ (k : ℕ). take (k - 64 - at) (drop at slice)) size ∙ ap (λ (l : List ℕ). take (m - 64 - at) (drop at l)) same

-- nothing is left
pub sound_over : (c : Cutter) → c.rest ≡ [] → is_long c.last ≡ false → IsSound c
sound_over c none last =
    let empty : length c.rest ≡ 0 = ap length none in
    record {
      piece = λ _ k d below. absurd (omega arith);
      fits = λ _. omega (arith, length-strip c.rest);
      number = λ n long. absurd (true≢false (sym (ap is_long long) ∙ last));
      open_long = λ n long _. absurd (true≢false (sym (ap is_long long) ∙ last));
      ended_long = λ n long _. absurd (true≢false (sym (ap is_long long) ∙ last));
      ended = λ _ _. none;
    }

-- the text up to a place after another
pub front_more : (bytes : List ℕ) (at have end : ℕ) → at ≤ end → end < have → take (end + 1) bytes ≡ take at bytes ++ take (end - at + 1) (take (have - at) (drop at bytes))
front_more bytes at have end from text =
    let place : end + 1 ≡ at + (end - at + 1) = omega arith in
    ap (λ (n : ℕ). take n bytes) place ∙ take-add at (end - at + 1) bytes
    ∙ ap (λ (l : List ℕ). take at bytes ++ l) (sym (take-take (end - at + 1) (have - at) (drop at bytes) (omega arith)))

-- an LF lies in the text and not in the block after it
pub lf_in_text : (bytes : List ℕ) (end n : ℕ) → slice_index bytes end ≡ 10 → ((i : ℕ) → n ≤ i + 64 → slice_index bytes i ≡ 0) → end + 64 < n
lf_in_text bytes end n lf zeros =
    ⊎_elim (λ (text : end + 64 < n). text) (λ (past : n ≤ end + 64). absurd (omega (arith, lf, zeros end past))) (cases_lt (end + 64) n)

-- what the first LF shows of the text that lies in a buffer of n bytes from a place on
pub record FoundLine (bytes : List ℕ) (at n end scanned marks : ℕ) : Type 0 where
  pub from : at ≤ end
  pub text : end + 64 < n
  pub lf : HasLfAt (take (n - 64 - at) (drop at bytes)) (end - at)
  pub piece : take (end - at) (take (n - 64 - at) (drop at bytes)) ≡ take (end - at) (drop at bytes)
  pub behind : take (n - 64 - (end + 1)) (drop (end + 1) bytes) ≡ drop (end - at + 1) (take (n - 64 - at) (drop at bytes))
  pub known : KnowsLfs bytes (end + 1) scanned marks

pub found_line : (bytes : List ℕ) (at n end scanned marks : ℕ) → at + 64 ≤ n → n ≡ length bytes → ((i : ℕ) → n ≤ i + 64 → slice_index bytes i ≡ 0) → TakesLf bytes at scanned end marks → FoundLine bytes at n end scanned marks
found_line bytes at n end scanned marks fits whole zeros takes =
    let text : end + 64 < n = lf_in_text bytes end n takes.first.lf zeros in
    let from : at ≤ end = takes.first.from in
    let have = n - 64 in
    let ordered : at ≤ have = omega arith in
    let inside : have ≤ length bytes = omega arith in
    let place : at + (end - at + 1) ≡ end + 1 = omega arith in
    record {
      from = from;
      text = text;
      lf = lf_in_rest bytes at have ordered inside end takes.first (λ i past. zeros i (omega arith));
      piece = front_of_rest bytes at have ordered inside (end - at) (omega arith);
      behind = subst (λ (k : ℕ). take (have - k) (drop k bytes) ≡ drop (end - at + 1) (take (have - at) (drop at bytes))) place
          (rest_behind bytes at have ordered inside (end - at + 1) (omega arith));
      known = takes.known;
    }
