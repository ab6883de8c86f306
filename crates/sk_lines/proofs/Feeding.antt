-- What a piece after a text does to a reader.
use Rattle.std.proofs.Common.{◌≡◌, ℕ, ◌+◌, ◌-◌, ◌<◌, ◌≤◌, Bool, true, false, true≢false, List, [], ◌++◌, length, take, drop, Option, Result, Ok, Err, IfOk, nat_eq, replicate, refl, sym, ap, ◌∙◌, subst, arith, append-nil, append_assoc, length-take, take-take, take-add}
use borrow.Rule.Slice.PartMut.{put_mid}
use Rattle.std.proofs.lemmas.Bool.{eqb-true}
use Rattle.std.proofs.lemmas.List.{nil_from_length}
use Rattle.std.proofs.lemmas.Slice.{take-put_mid_below, between-put_mid}
use Rattle.std.specs.Str.Lines.{strip_carriage_return}
use Rattle.std.specs.Io.{ReadsAtMost}
use Rattle.std.specs.Io.KnownBytes.{ReadConsumes}
use Rattle.sk_model.specs.Lines.{AreWithin}
use Rattle.sk_lines.specs.declared.cutter.Lines.TheInside.{Inside}
use Rattle.sk_lines.specs.declared.cutter.Next.{Next}
use Rattle.sk_lines.specs.Cutter.{Cutter, Follows, HasNoLf, IsRead, IsSound}
use Rattle.sk_lines.specs.Inside.{IsKept, cutter_of}
use Rattle.sk_lines.specs.Padded.{PaddedState, padded, with_more}
use Rattle.sk_lines.proofs.Places as places

-- two states whose fields are the same
pub same_state : (a b : PaddedState) → a.items ≡ b.items → a.room ≡ b.room → a ≡ b
same_state a b items room i = record { items = items i; room = room i }

-- n bytes of a part that was written
pub take_written : (at k n : ℕ) (xs ys : List ℕ) → at + k ≤ length xs → length ys ≡ k → n ≤ k → take (at + n) (put_mid at k xs ys) ≡ take at xs ++ take n ys
take_written at k n xs ys fits whole few =
    let all : List ℕ = put_mid at k xs ys in
    let size : at + k - at ≡ k = omega arith in
    let part : take k (drop at all) ≡ ys = ap (λ (m : ℕ). take m (drop at all)) (sym size) ∙ between-put_mid at k xs ys (at + k) (omega arith) (omega (arith, whole, size)) in
    take-add at n all
    ∙ ap (λ (l : List ℕ). l ++ take n (drop at all)) (take-put_mid_below at k xs ys at (omega arith) (omega arith))
    ∙ ap (λ (l : List ℕ). take at xs ++ l) (sym (take-take n k (drop at all) few) ∙ ap (take n) part)

from_start : (at n : ℕ) (xs : List ℕ) → at ≡ 0 → take (n - at) (drop at xs) ≡ take n xs
from_start at n xs none =
    let same : n - 0 ≡ n = omega arith in
    ap (λ (k : ℕ). take (n - k) (drop k xs)) none ∙ ap (λ (k : ℕ). take k xs) same

-- a reader after a piece
abbrev fed : Inside → List ℕ → ℕ → Bool → Inside
fed a more scanned hungry = record a { buffer = record a.buffer { items = with_more a.buffer.items more }; scanned = scanned; marks = 0; last = Next.More; hungry = hungry }

-- a reader without given lines holds its text from the start on
pub at_front : (a : Inside) → IsKept a → (cutter_of a).front ≡ [] → a.at ≡ 0
at_front a kept none = omega (arith, ap length none, length-take a.at a.buffer.items, kept.at)

module _ (a : Inside) (more : List ℕ) (kept : IsKept a) (start : a.at ≡ 0) where
  abbrev text : List ℕ
  text = take (length a.buffer.items - 64) a.buffer.items

  abbrev items : List ℕ
  items = with_more a.buffer.items more

  text_is : text ≡ (cutter_of a).rest
  text_is = sym (from_start a.at (length a.buffer.items - 64) a.buffer.items start)

  size : length items ≡ length text + length more + 64
  size = places.length_padded items text more refl

  text_size : length text ≡ length a.buffer.items - 64
  text_size = omega (arith, length-take (length a.buffer.items - 64) a.buffer.items)

  pub fed_rest : take (length items - 64 - a.at) (drop a.at items) ≡ (cutter_of a).rest ++ more
  fed_rest = from_start a.at (length items - 64) items start ∙ places.text_of_padded items (text ++ more) (length items) refl refl ∙ ap (λ (l : List ℕ). l ++ more) text_is

  fed_sound : (scanned : ℕ) (hungry : Bool) → a.hungry ≡ true → a.ended ≡ false → (hungry ≡ true → more ≡ []) → IsSound (cutter_of (fed a more scanned hungry))
  fed_sound scanned hungry was going none = record {
    piece = λ is. subst HasNoLf (sym (same is)) (kept.sound.piece was);
    fits = λ is. omega (arith, ap (λ (l : List ℕ). length (strip_carriage_return l)) (same is), kept.sound.fits was);
    number = λ n long. absurd (cc);
    open_long = λ n long _. absurd (cc);
    ended_long = λ n long _. absurd (cc);
    ended = λ over _. absurd (true≢false (sym over ∙ going));
  }
    where
      same : hungry ≡ true → take (length items - 64 - a.at) (drop a.at items) ≡ (cutter_of a).rest
      same is = fed_rest ∙ ap (λ (l : List ℕ). (cutter_of a).rest ++ l) (none is) ∙ append-nil (cutter_of a).rest

  pub fed_kept : (scanned : ℕ) (hungry : Bool) → a.hungry ≡ true → a.ended ≡ false → scanned ≡ length a.buffer.items - 64 → (hungry ≡ true → more ≡ []) → IsKept (fed a more scanned hungry)
  fed_kept scanned hungry was going place none = record {
    low = kept.low;
    high = kept.high;
    room = kept.room;
    at = omega (arith, kept.at, size, text_size);
    zeros = λ i past. places.padding_behind items (text ++ more) i refl past;
    line_start = kept.line_start;
    line_end = omega (arith, kept.at, kept.line_end, size, text_size);
    scanned = omega (arith, kept.at, size, text_size);
    block = λ some. absurd (some refl);
    marks = places.known_none items a.at scanned (omega (arith, kept.at)) (λ i _ before lf.
        let below : i < length text = omega (arith, text_size) in
        subst HasNoLf (sym text_is) (kept.sound.piece was) i 0 below (sym (places.kept_in_front items text more i refl below) ∙ lf));
    sound = fed_sound scanned hungry was going none;
  }

-- what was given of a text is so of a longer one
pub follows_more : (old new : Cutter) (more : List ℕ) → new.rest ≡ old.rest ++ more → new.number ≡ old.number → new.limit ≡ old.limit
    → (given : List (List ℕ)) (text : List ℕ) → Follows old given text → Follows new given (text ++ more)
follows_more old new more rest number limit given text f = record {
  front = f.front;
  joined = ap (λ (l : List ℕ). l ++ more) f.joined ∙ append_assoc f.front old.rest more ∙ ap (λ (l : List ℕ). f.front ++ l) (sym rest);
  whole = f.whole;
  lines = f.lines;
  count = number ∙ f.count;
  within = subst (λ (n : ℕ). AreWithin n given) (sym limit) f.within;
}

-- how many bytes were read
pub few_read : {E : Type 0} (old new : Option (List ℕ)) (result : Result ℕ E) (more : List ℕ) (most : ℕ) → IsRead old new result more → IfOk result (λ n. n ≤ most) → length more ≤ most
few_read old new (Ok n) more most read few = omega (arith, read.0, few)
few_read old new (Err why) more most read few = omega (arith, ap length read.0)

pub none_read : {E : Type 0} (old new : Option (List ℕ)) (result : Result ℕ E) (more : List ℕ) (count : ℕ) → IsRead old new result more → ((n : ℕ) → result ≡ Ok n → count ≡ n) → nat_eq count 0 ≡ true → more ≡ []
none_read old new (Ok n) more count read is none = nil_from_length more (read.0 ∙ sym (is n refl) ∙ eqb-true count 0 none)
none_read old new (Err why) more count read is none = read.0

-- what a read into a part of a buffer leaves in it
pub read_is : {E : Type 0} (old new : Option (List ℕ)) (result : Result ℕ E) (bytes piece : List ℕ) (at k : ℕ) → at + k ≤ length bytes → length piece ≡ k → 0 < k
    → ReadsAtMost result piece → ReadConsumes old new result piece
    → (more : List ℕ) × IsRead old new result more × (take (at + length more) (put_mid at k bytes piece) ≡ take at bytes ++ more)
read_is old new (Ok n) bytes piece at k fits whole some bound read =
    let size : length (take n piece) ≡ n = omega (arith, length-take n piece, bound) in (
      take n piece,
      (size, read.0, λ none. read.1 none (omega (arith, whole))),
      ap (λ (m : ℕ). take (at + m) (put_mid at k bytes piece)) size ∙ take_written at k n bytes piece fits whole (omega (arith, whole, bound)),
    )
read_is old new (Err why) bytes piece at k fits whole some bound read =
    let place : at + 0 ≡ at = omega arith in
    ([], (refl, read), ap (λ (m : ℕ). take m (put_mid at k bytes piece)) place ∙ take-put_mid_below at k bytes piece at (omega arith) (omega arith) ∙ sym (append-nil (take at bytes)))

-- a reader whose rest lies in other memory
module _ (a : Inside) (b : PaddedState) (kept : IsKept a) (room : a.limit + 1 + 65536 + 64 ≤ b.room) (items : b.items ≡ padded (cutter_of a).rest) where
  abbrev moved : Inside
  moved = record a { buffer = b; at = 0; scanned = 0; marks = 0; line_start = 0; line_end = 0 }

  moved_size : length b.items ≡ length (cutter_of a).rest + 64
  moved_size = omega (arith, places.length_padded b.items (cutter_of a).rest [] (items ∙ ap (λ (l : List ℕ). l ++ replicate 64 0) (sym (append-nil (cutter_of a).rest))))

  pub moved_rest : (cutter_of moved).rest ≡ (cutter_of a).rest
  moved_rest = from_start 0 (length b.items - 64) b.items refl ∙ places.text_of_padded b.items (cutter_of a).rest (length b.items) items refl

  moved_sound : IsSound (cutter_of moved)
  moved_sound =
      let s = kept.sound in
      subst (λ (r : List ℕ). IsSound (record (cutter_of moved) { rest = r })) (sym moved_rest)
      (record { piece = s.piece; fits = s.fits; number = s.number; open_long = s.open_long; ended_long = s.ended_long; ended = s.ended })

  pub moved_kept : IsKept moved
  moved_kept = record {
    low = kept.low;
    high = kept.high;
    room = room;
    at = omega (arith, moved_size);
    zeros = λ i past. places.padding_behind b.items (cutter_of a).rest i items past;
    line_start = omega arith;
    line_end = omega arith;
    scanned = omega arith;
    block = λ some. absurd (some refl);
    marks = places.known_none b.items 0 0 (omega arith) (λ i _ before lf. omega (arith, before));
    sound = moved_sound;
  }
