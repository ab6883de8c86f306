-- Parts of a source's bytes, and what they hold.
use Rattle.std.proofs.Common.{◌≡◌, ◌≢◌, ◌==◌, ◌⊎◌, ℕ, zero, suc, ◌+◌, ◌-◌, ◌<◌, ◌≤◌, Bool, true, false, List, [], ◌∷◌, ◌++◌, length, take, drop, codes, Option, Result, Ok, Err, IsErrAnd, refl, sym, ap, ◌∙◌, subst, inl, inr, arith, append_assoc, append-nil, length-append}
use Rattle.std.proofs.lemmas.Bool.{cases_Bool, eqb-true, false≢true}
use Rattle.std.proofs.Math.Seq.{take-append_seam}
use Rattle.std.proofs.lemmas.List.{take_all}
use Rattle.std.specs.Io.KnownBytes.{IsAtEnd}
use Rattle.std.specs.Prelude.{MatchResult}
use Rattle.sk_read.specs.Reads.{piece_limit}
use Rattle.sk_read.specs.declared.fault.Fault.{Fault}
use Rattle.sk_read.specs.declared.fault.Fault.TheVariants as fault
use Rattle.csv.specs.Reading.{default_config, records, records_from, strip_bom, is_bom}
use Rattle.csv.specs.Machine.{next_record}
use Rattle.csv.specs.declared.parser.State.{State}
use Rattle.csv.specs.declared.parser.State.TheVariants as st
use Rattle.sk_read.specs.declared.records.parts.Parts.{Parts}
use Rattle.sk_read.specs.Scan.{IsEnd, state_of, settled, state_after, StaysInside, IsCut}
use Rattle.sk_read.specs.Records.{Row, records_of, open_records_of, complete_records_of}
use Rattle.sk_read.specs.Parts.{IsLed, HasStarted, HasTaken, HasHeld, AreInTime, Holds, LacksBytes, Lacks, Refills, is_mark_front, mark, IsWithoutMark}
use Rattle.sk_read.proofs.Steps.{end_is_skipped}
use Rattle.sk_read.proofs.Runs.{records_append, records_led, open_is_one, records_few}
use Rattle.sk_read.proofs.Cuts.{after_append, after_byte, last_is_end, cut_later, cut_stays}

-- whether a source may still end
abbrev pub may_end : Bool → ℕ
may_end true = 0
may_end false = 1

pub led_plain : (text : List ℕ) → IsLed text → strip_bom text ≡ text
unfolding strip_bom
led_plain [] led = refl
led_plain (a ∷ []) led = refl
led_plain (a ∷ b ∷ []) led = refl
led_plain (a ∷ b ∷ c ∷ rest) led = elim led.1 [
  | inl lf ↦ subst (λ (x : ℕ). strip_bom (x ∷ b ∷ c ∷ rest) ≡ x ∷ b ∷ c ∷ rest) (sym lf) refl
  | inr cr ↦ subst (λ (x : ℕ). strip_bom (x ∷ b ∷ c ∷ rest) ≡ x ∷ b ∷ c ∷ rest) (sym cr) refl
]

pub led_front : (cut : ℕ) (text : List ℕ) → 1 ≤ cut → IsLed text → IsLed (take cut text)
led_front zero text some led = absurd (omega arith)
led_front (suc n) [] some led = absurd (omega (arith, led.0))
led_front (suc n) (c ∷ rest) some led = (omega arith, led.1)

-- a text that is not empty, up to its last byte
split_last : (xs : List ℕ) → 1 ≤ length xs → (init : List ℕ) × (last : ℕ) × (xs ≡ init ++ last ∷ [])
split_last [] some = absurd (omega arith)
split_last (x ∷ []) some = ([], x, refl)
split_last (x ∷ y ∷ ys) some =
    let more = split_last (y ∷ ys) (omega arith) in
    (x ∷ more.0, more.1, ap (λ (l : List ℕ). x ∷ l) more.2)

drop_front : (xs ys : List ℕ) → drop (length xs) (xs ++ ys) ≡ ys
drop_front [] ys = refl
drop_front (x ∷ xs) ys = drop_front xs ys

-- after a byte that ends a record it stands as at the start
led_goes_on : (c : ℕ) → IsEnd c → state_after st.StartRecord (c ∷ []) ≡ st.StartRecord
led_goes_on c end = after_byte st.StartRecord c ∙ ap (λ (p : State × _). settled p.0) (end_is_skipped c end)

-- the whole records held were given, and their last byte is kept
pub drop_given : (p new : Parts) (rows : List Row) (taken : List ℕ) → HasTaken p rows taken → new.bytes.items ≡ drop (p.cut - 1) p.bytes.items → new.cut ≡ 1 → new.place ≡ p.place →
    new.taken ≡ p.taken → new.most ≡ p.most → new.ended ≡ p.ended → HasTaken new (rows ++ records default_config (take p.cut p.bytes.items)) taken
drop_given p new rows taken has bytes cut place count most ended =
    let is = has.cut in
    let ends = split_last is.front (omega (arith, is.size, has.some)) in
    let last = ends.1 in
    let between : state_after st.StartRecord is.front ≡ st.StartRecord = is.between (omega (arith, has.some)) in
    let end : IsEnd last = last_is_end st.StartRecord ends.0 last (sym (ap (state_after st.StartRecord) ends.2) ∙ between) in
    let given : take p.cut p.bytes.items ≡ is.front =
    ap (λ (l : List ℕ). take p.cut l) is.joined ∙ ap (λ (n : ℕ). take n (is.front ++ is.back)) (sym is.size) ∙ take-append_seam is.front is.back in
    let place_before : p.cut - 1 ≡ length ends.0 = omega (arith, is.size, ap length ends.2, length-append ends.0 (last ∷ [])) in
    let whole : p.bytes.items ≡ ends.0 ++ last ∷ is.back =
    is.joined ∙ ap (λ (l : List ℕ). l ++ is.back) ends.2 ∙ append_assoc ends.0 (last ∷ []) is.back in
    let held : new.bytes.items ≡ last ∷ is.back =
    bytes ∙ ap (λ (n : ℕ). drop n p.bytes.items) place_before ∙ ap (drop (length ends.0)) whole ∙ drop_front ends.0 (last ∷ is.back) in
    let led = led_goes_on last end in
    record {
      follows = λ later over.
          has.follows later (λ e. over (ended ∙ e))
          ∙ ap (λ (l : List ℕ). rows ++ records default_config l) (ap (λ (l : List ℕ). l ++ later) is.joined ∙ append_assoc is.front is.back later)
          ∙ ap (λ (l : List Row). rows ++ l) (records_append is.front (is.back ++ later) between ∙ ap (λ (l : List Row). records default_config is.front ++ l) (sym (records_led last (is.back ++ later) end)))
          ∙ sym (append_assoc rows (records default_config is.front) (records default_config (last ∷ is.back ++ later)))
          ∙ ap (λ (l : List ℕ). (rows ++ records default_config l) ++ records default_config (last ∷ is.back ++ later)) (sym given)
          ∙ ap (λ (l : List ℕ). (rows ++ records default_config (take p.cut p.bytes.items)) ++ records default_config (l ++ later)) (sym held);
      led = subst IsLed (sym held) (omega arith, end);
      cut = subst (λ (n : ℕ). IsCut st.StartRecord new.bytes.items (state_of new.place) n) (sym cut) (record {
        front = last ∷ [];
        back = is.back;
        joined = held;
        size = refl;
        between = λ some. led;
        inside = subst (λ (s : State). StaysInside s is.back) (between ∙ sym led) is.inside;
        ends = ap state_of place ∙ is.ends ∙ ap (state_after st.StartRecord) is.joined ∙ after_append st.StartRecord is.front is.back
            ∙ ap (λ (s : State). state_after s is.back) (between ∙ sym led) ∙ sym (after_append st.StartRecord (last ∷ []) is.back) ∙ ap (state_after st.StartRecord) (sym held);
      });
      some = omega (arith, cut);
      count = has.count ∙ sym count;
      bound = omega (arith, has.bound, count, most);
      few = omega (arith, has.few, most);
    }

-- a piece more was taken, with a place between two records or none
pub takes_more : (p mid new : Parts) (rows : List Row) (taken more : List ℕ) (found : ℕ) → HasTaken p rows taken → p.ended ≡ false → Holds p mid more →
    IsCut (state_of p.place) more (state_of new.place) found → new.bytes.items ≡ mid.bytes.items → new.taken ≡ mid.taken → new.most ≡ mid.most →
    (found ≡ 0 → new.cut ≡ p.cut) → (0 < found → new.cut ≡ length p.bytes.items + found) → HasTaken new rows (taken ++ more)
takes_more p mid new rows taken more found has going holds cut bytes count most stays later_cut =
    let held : new.bytes.items ≡ p.bytes.items ++ more = bytes ∙ holds.bytes in
    record {
      follows = λ later over.
          ap records_of (append_assoc taken more later) ∙ has.follows (more ++ later) (λ e. absurd (false≢true (sym going ∙ e)))
          ∙ ap (λ (l : List ℕ). rows ++ records default_config l) (sym (append_assoc p.bytes.items more later))
          ∙ ap (λ (l : List ℕ). rows ++ records default_config (l ++ later)) (sym held);
      led = subst IsLed (sym held) (led_longer p.bytes.items has.led);
      cut = subst (λ (l : List ℕ). IsCut st.StartRecord l (state_of new.place) new.cut) (sym held) (go found cut stays later_cut);
      some = some_cut found stays later_cut;
      count = length-append taken more ∙ ap (λ (n : ℕ). n + length more) has.count ∙ sym (count ∙ holds.taken);
      bound = omega (arith, count, most, holds.bound);
      few = omega (arith, has.few, most, holds.most);
    }
  where
    led_longer : (xs : List ℕ) → IsLed xs → IsLed (xs ++ more)
    led_longer [] led = absurd (omega (arith, led.0))
    led_longer (c ∷ rest) led = (omega arith, led.1)

    go : (n : ℕ) → IsCut (state_of p.place) more (state_of new.place) n → (n ≡ 0 → new.cut ≡ p.cut) → (0 < n → new.cut ≡ length p.bytes.items + n) →
        IsCut st.StartRecord (p.bytes.items ++ more) (state_of new.place) new.cut
    go zero cut stays later = subst (λ (n : ℕ). IsCut st.StartRecord (p.bytes.items ++ more) (state_of new.place) n) (sym (stays refl))
        (cut_stays st.StartRecord p.bytes.items more (state_of p.place) (state_of new.place) p.cut has.cut cut)
    go (suc n) cut stays later =
        let some : 0 < suc n = omega arith in
        subst (λ (m : ℕ). IsCut st.StartRecord (p.bytes.items ++ more) (state_of new.place) m) (sym (later some))
        (cut_later st.StartRecord p.bytes.items more (state_of p.place) (state_of new.place) p.cut (suc n) has.cut cut some)

    some_cut : (n : ℕ) → (n ≡ 0 → new.cut ≡ p.cut) → (0 < n → new.cut ≡ length p.bytes.items + n) → 1 ≤ new.cut
    some_cut zero stays later = omega (arith, stays refl, has.some)
    some_cut (suc n) stays later =
        let some : 0 < suc n = omega arith in
        omega (arith, later some)

less_one : (rows : List Row) (row : Row) → take (length (rows ++ row ∷ []) - 1) (rows ++ row ∷ []) ≡ rows
less_one rows row =
    let place : length (rows ++ row ∷ []) - 1 ≡ length rows = omega (arith, length-append rows (row ∷ [])) in
    ap (λ (n : ℕ). take n (rows ++ row ∷ [])) place ∙ take-append_seam rows (row ∷ [])

-- where no whole record is held, the records given are those that have ended
pub complete_is : (p : Parts) (rows : List Row) (taken : List ℕ) → HasTaken p rows taken → p.cut ≡ 1 → p.ended ≡ false → complete_records_of taken ≡ rows
complete_is p rows taken has one going =
    let is = has.cut in
    let between : state_after st.StartRecord is.front ≡ st.StartRecord = is.between (omega (arith, one)) in
    let last = open_is_one is.back (subst (λ (s : State). StaysInside s is.back) between is.inside) in
    let none : records default_config is.front ≡ [] = no_record is.front (is.size ∙ one) between in
    let opened : open_records_of taken ≡ rows ++ last.0 ∷ [] =
    has.follows (codes "x") (λ e. absurd (false≢true (sym going ∙ e)))
    ∙ ap (λ (l : List ℕ). rows ++ records default_config l) (ap (λ (l : List ℕ). l ++ codes "x") is.joined ∙ append_assoc is.front is.back (codes "x"))
    ∙ ap (λ (l : List Row). rows ++ l) (records_append is.front (is.back ++ codes "x") between ∙ ap (λ (l : List Row). l ++ records default_config (is.back ++ codes "x")) none ∙ last.1) in
    ap (λ (l : List Row). take (length l - 1) l) opened ∙ less_one rows last.0
  where
    no_record : (front : List ℕ) → length front ≡ 1 → state_after st.StartRecord front ≡ st.StartRecord → records default_config front ≡ []
    no_record [] size between = absurd (omega (arith, size))
    no_record (c ∷ []) size between =
        let few = records_few [] in
        records_led c [] (last_is_end st.StartRecord [] c between) ∙ no_rows (records default_config []) (omega (arith, few))
      where
        no_rows : (l : List Row) → length l ≡ 0 → l ≡ []
        no_rows [] none = refl
        no_rows (r ∷ l) none = absurd (omega arith)
    no_record (c ∷ d ∷ rest) size between = absurd (omega (arith, size))

-- what was put after some bytes
pub behind_is : (n : ℕ) (all old more : List ℕ) → n ≡ length old → all ≡ old ++ more → take (length all - n) (drop n all) ≡ more
behind_is n all old more place joined =
    let rest : drop n all ≡ more = ap (λ (m : ℕ). drop m all) place ∙ ap (drop (length old)) joined ∙ drop_front old more in
    ap (take (length all - n)) rest ∙ take_all (length all - n) more (omega (arith, place, ap length joined, length-append old more))

none_stays : (s : State) → StaysInside s []
unfolding StaysInside
none_stays s = tt

mark_dropped : (later : List ℕ) → strip_bom (0xEF ∷ 0xBB ∷ 0xBF ∷ later) ≡ later
unfolding strip_bom
mark_dropped later = refl

-- no record has ended in the first bytes of a mark
pub none_complete : (taken : List ℕ) → is_mark_front taken ≡ true → complete_records_of taken ≡ []
unfolding records_of strip_bom records_from next_record
none_complete [] front = refl
none_complete (a ∷ []) front = subst (λ (x : ℕ). complete_records_of (x ∷ []) ≡ []) (sym (eqb-true a 0xEF front)) refl
none_complete (a ∷ b ∷ []) front = elim (cases_Bool (a == 0xEF)) [
  | inr differs ↦ absurd (false≢true (rw differs at front))
  | inl first ↦ elim (cases_Bool (b == 0xBB)) [
    | inr differs ↦ absurd (false≢true (rw (first, differs) at front))
    | inl also ↦
        subst (λ (x : ℕ). complete_records_of (x ∷ b ∷ []) ≡ []) (sym (eqb-true a 0xEF first)) (subst (λ (x : ℕ). complete_records_of (0xEF ∷ x ∷ []) ≡ []) (sym (eqb-true b 0xBB also)) refl)
  ]
]
none_complete (a ∷ b ∷ c ∷ rest) front = absurd (false≢true front)

one_mark : (a b c : ℕ) → is_bom a b c ≡ true → a ∷ b ∷ c ∷ [] ≡ mark
one_mark a b c is = elim (cases_Bool (a == 0xEF)) [
  | inr differs ↦ absurd (false≢true (rw differs at is))
  | inl first ↦ elim (cases_Bool (b == 0xBB)) [
    | inr differs ↦ absurd (false≢true (rw (first, differs) at is))
    | inl also ↦ elim (cases_Bool (c == 0xBF)) [
      | inr differs ↦ absurd (false≢true (rw (first, also, differs) at is))
      | inl last ↦ ap (λ (x : ℕ). x ∷ b ∷ c ∷ []) (eqb-true a 0xEF first) ∙ ap (λ (x : ℕ). 0xEF ∷ x ∷ c ∷ []) (eqb-true b 0xBB also) ∙ ap (λ (x : ℕ). 0xEF ∷ 0xBB ∷ x ∷ []) (eqb-true c 0xBF last)
    ]
  ]
]

-- a text that does not begin with a mark
plain_start : (taken later : List ℕ) → length taken ≤ 3 → taken ≢ mark → (is_mark_front taken ≡ false) ⊎ (later ≡ []) → strip_bom (taken ++ later) ≡ taken ++ later
unfolding strip_bom
plain_start [] later small other (inl told) = absurd (false≢true (sym told))
plain_start [] later small other (inr over) = rw over refl
plain_start (a ∷ []) [] small other why = refl
plain_start (a ∷ []) (x ∷ []) small other why = refl
plain_start (a ∷ []) (x ∷ y ∷ later) small other (inl told) = rw told refl
plain_start (a ∷ []) (x ∷ y ∷ later) small other (inr over) = cc
plain_start (a ∷ b ∷ []) [] small other why = refl
plain_start (a ∷ b ∷ []) (x ∷ later) small other (inl told) = rw told refl
plain_start (a ∷ b ∷ []) (x ∷ later) small other (inr over) = cc
plain_start (a ∷ b ∷ c ∷ []) later small other why = elim (cases_Bool (is_bom a b c)) [
  | inl is ↦ absurd (other (one_mark a b c is))
  | inr differs ↦ rw differs refl
]
plain_start (a ∷ b ∷ c ∷ d ∷ rest) later small other why = absurd (omega (arith, small))

-- what is held of the first bytes: none of a mark, else all
pub started : (p new : Parts) (taken held : List ℕ) (found : ℕ) → HasStarted p taken → IsWithoutMark taken held → new.bytes.items ≡ 10 ∷ held →
    IsCut st.StartRecord held (state_of new.place) found → new.cut ≡ 1 + found → new.taken ≡ p.taken → new.most ≡ p.most → new.ended ≡ p.ended → HasTaken new [] taken
unfolding records_of
started p new taken held found has which bytes cut place count most ended = record {
  follows = λ later over.
      ap (records default_config) (plain later over which) ∙ sym (records_led 10 (held ++ later) (inl refl)) ∙ ap (λ (l : List ℕ). records default_config (l ++ later)) (sym bytes);
  led = subst IsLed (sym bytes) (omega arith, inl refl);
  cut = subst (λ (l : List ℕ). IsCut st.StartRecord l (state_of new.place) new.cut) (sym bytes) (subst (λ (n : ℕ). IsCut st.StartRecord (10 ∷ held) (state_of new.place) n) (sym place) (go found cut));
  some = omega (arith, place);
  count = has.count ∙ sym count;
  bound = omega (arith, has.bound, count, most);
  few = omega (arith, has.few, most);
}
  where
    told_or_over : (later : List ℕ) (b : Bool) → p.ended ≡ b → (new.ended ≡ true → later ≡ []) → (is_mark_front taken ≡ false) ⊎ (later ≡ [])
    told_or_over later true e over = inr (over (ended ∙ e))
    told_or_over later false e over = inl (has.told e)

    plain : (later : List ℕ) → (new.ended ≡ true → later ≡ []) → IsWithoutMark taken held → strip_bom (taken ++ later) ≡ held ++ later
    plain later over (inl is) = rw (is.0, is.1) (mark_dropped later)
    plain later over (inr other) = plain_start taken later has.small other.0 (told_or_over later p.ended refl over) ∙ ap (λ (l : List ℕ). l ++ later) (sym other.1)

    base : IsCut st.StartRecord (10 ∷ []) st.StartRecord 1
    base = record {
      front = 10 ∷ [];
      back = [];
      joined = refl;
      size = refl;
      between = λ some. led_goes_on 10 (inl refl);
      inside = none_stays (state_after st.StartRecord (10 ∷ []));
      ends = sym (led_goes_on 10 (inl refl));
    }

    go : (n : ℕ) → IsCut st.StartRecord held (state_of new.place) n → IsCut st.StartRecord (10 ∷ held) (state_of new.place) (1 + n)
    go zero cut = cut_stays st.StartRecord (10 ∷ []) held st.StartRecord (state_of new.place) 1 base cut
    go (suc n) cut = cut_later st.StartRecord (10 ∷ []) held st.StartRecord (state_of new.place) 1 (suc n) base cut (omega arith)

-- one piece more after records of which all that ended were given
pub rows_in_time : (last : ℕ) (rows : List Row) (taken more : List ℕ) → complete_records_of taken ≡ rows → length more ≤ last → length more ≤ piece_limit → AreInTime last rows (taken ++ more)
rows_in_time last rows taken more complete within size = record {
  front = taken;
  piece = more;
  joined = refl;
  size = within;
  few = size;
  earlier = ([], sym (ap (λ (l : List Row). l ++ []) complete ∙ append-nil rows));
}

pub held_more : (p mid new : Parts) (left now : Option (List ℕ)) (rows : List Row) (taken more : List ℕ) (found : ℕ) → HasHeld p left rows taken → p.cut ≡ 1 → p.ended ≡ false → Holds p mid more →
    length more ≤ piece_limit → new.last ≡ mid.last → (mid.ended ≡ true → IsAtEnd now) → IsCut (state_of p.place) more (state_of new.place) found → new.bytes.items ≡ mid.bytes.items → new.taken ≡ mid.taken → new.most ≡ mid.most →
    new.ended ≡ mid.ended → (found ≡ 0 → new.cut ≡ p.cut) → (0 < found → new.cut ≡ length p.bytes.items + found) → HasHeld new now rows (taken ++ more)
held_more p mid new left now rows taken more found held one going holds size last end cut bytes count most ended stays later = record {
  has = takes_more p mid new rows taken more found held.has going holds cut bytes count most stays later;
  end = λ over. (end (sym ended ∙ over), omega (arith, (holds.end (sym ended ∙ over)).1, count, most));
  in_time = rows_in_time new.last rows taken more (complete_is p rows taken held.has one going) (omega (arith, last, holds.last)) size;
}

-- no byte came after records of which all that ended were given
pub lacks_row : (last : ℕ) (p : Parts) (left : Option (List ℕ)) (rows : List Row) (taken more : List ℕ) (most : ℕ) (f : Fault) → HasHeld p left rows taken → p.cut ≡ 1 → p.ended ≡ false → most ≡ p.most →
    length more ≤ piece_limit → length more ≤ last → LacksBytes p more f → Lacks last most rows (taken ++ more) f
lacks_row last p left rows taken more most fault.ReadFault held one going is size within lacks =
    let same : taken ≡ taken ++ more = sym (ap (λ (l : List ℕ). taken ++ l) lacks.0 ∙ append-nil taken) in
    subst (λ (l : List ℕ). (complete_records_of l ≡ rows) × (length l < most)) same (complete_is p rows taken held.has one going, omega (arith, held.has.count, lacks.1, is))
lacks_row last p left rows taken more most fault.TooMuch held one going is size within lacks =
    let same : taken ≡ taken ++ more = sym (ap (λ (l : List ℕ). taken ++ l) lacks.0 ∙ append-nil taken) in
    subst (λ (l : List ℕ). (complete_records_of l ≡ rows) × (length l ≡ most)) same (complete_is p rows taken held.has one going, omega (arith, held.has.count, lacks.1, is))
lacks_row last p left rows taken more most fault.OutOfMemory held one going is size within lacks = (
  omega (arith, length-append taken more, held.has.count, lacks, is),
  rows_in_time last rows taken more (complete_is p rows taken held.has one going) within size,
  λ later. (
    records default_config (p.bytes.items ++ (more ++ later)),
    ap records_of (append_assoc taken more later) ∙ held.has.follows (more ++ later) (λ over. absurd (false≢true (sym going ∙ over))),
  ),
)
lacks_row last p left rows taken more most _ held one going is size within lacks = absurd lacks

-- no byte came after the first of a byte order mark
pub lacks_mark : (last : ℕ) (p : Parts) (taken more : List ℕ) (most : ℕ) (f : Fault) → is_mark_front taken ≡ true → length taken ≤ 3 → length taken ≡ p.taken → most ≡ p.most → length more ≤ 1 → length more ≤ last → LacksBytes p more f →
    Lacks last most [] (taken ++ more) f
lacks_mark last p taken more most fault.ReadFault front small count is size within lacks =
    let same : taken ≡ taken ++ more = sym (ap (λ (l : List ℕ). taken ++ l) lacks.0 ∙ append-nil taken) in
    subst (λ (l : List ℕ). (complete_records_of l ≡ []) × (length l < most)) same (none_complete taken front, omega (arith, count, lacks.1, is))
lacks_mark last p taken more most fault.TooMuch front small count is size within lacks =
    let same : taken ≡ taken ++ more = sym (ap (λ (l : List ℕ). taken ++ l) lacks.0 ∙ append-nil taken) in
    subst (λ (l : List ℕ). (complete_records_of l ≡ []) × (length l ≡ most)) same (none_complete taken front, omega (arith, count, lacks.1, is))
lacks_mark last p taken more most fault.OutOfMemory front small count is size within lacks = (
  omega (arith, length-append taken more, count, lacks, is),
  rows_in_time last [] taken more (none_complete taken front) within (omega (arith, size)),
  λ later. (records_of ((taken ++ more) ++ later), refl),
)
lacks_mark last p taken more most _ front small count is size within lacks = absurd lacks

-- before the first read
pub none_in_time : (last : ℕ) → AreInTime last [] []
none_in_time last = rows_in_time last [] [] [] (none_complete [] refl) (omega arith) (omega arith)

-- a read of more bytes is as good
pub rows_within : (a b : ℕ) (rows : List Row) (taken : List ℕ) → a ≤ b → AreInTime a rows taken → AreInTime b rows taken
rows_within a b rows taken within is = record {
  front = is.front;
  piece = is.piece;
  joined = is.joined;
  size = omega (arith, is.size, within);
  few = is.few;
  earlier = is.earlier;
}

-- the first of a byte order mark are few
pub mark_small : (taken : List ℕ) → is_mark_front taken ≡ true → length taken ≤ 2
mark_small [] is = omega arith
mark_small (a ∷ []) is = omega arith
mark_small (a ∷ b ∷ []) is = omega arith
mark_small (a ∷ b ∷ c ∷ rest) is = absurd (false≢true is)

-- one byte more after the first of a byte order mark
pub mark_in_time : (last : ℕ) (taken more : List ℕ) → is_mark_front taken ≡ true → last ≡ length more → length more ≤ 1 → AreInTime last [] (taken ++ more)
mark_in_time last taken more front is size = rows_in_time last [] taken more (none_complete taken front) (omega (arith, is)) (omega (arith, size))

-- what is known of a call that failed
pub at_err : {A : Type 0} (r : Result A Fault) (f : Fault) (P : A → Type 0) (Q : Fault → Type 0) → IsErrAnd r (λ (x : Fault). x ≡ f) → Q f → MatchResult r P Q
at_err (Ok a) f P Q is holds = absurd is
at_err (Err e) f P Q is holds = subst Q (sym is) holds

pub refilled_err : (p : Parts) (left : Option (List ℕ)) (rows : List Row) (taken : List ℕ) (f : Fault) (r : Result Bool Fault) → IsErrAnd r (λ (x : Fault). x ≡ f) → Lacks p.last p.most rows taken f → Refills p left rows taken r
refilled_err p left rows taken f (Ok b) is lacks = absurd is
refilled_err p left rows taken f (Err e) is lacks = subst (Lacks p.last p.most rows taken) (sym is) lacks

pub held_still : (p : Parts) (left : Option (List ℕ)) (rows : List Row) (taken : List ℕ) → HasHeld p left rows taken → HasHeld p left rows (taken ++ [])
held_still p left rows taken held = subst (HasHeld p left rows) (sym (append-nil taken)) held
