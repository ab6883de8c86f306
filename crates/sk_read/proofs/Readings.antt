-- What a reader of a source's lines finds.
use Rattle.std.proofs.Common.{◌≡◌, ◌≢◌, ℕ, ◌+◌, ◌-◌, ◌<◌, ◌≤◌, Bool, true, false, List, [], ◌∷◌, ◌++◌, length, take, slice_range, Option, Result, Ok, Err, IsErrAnd, refl, inl, inr, arith, append-nil, length-append, sym, ap, ◌∙◌, subst}
use Rattle.std.specs.Str.Lines.{strip_carriage_return}
use Rattle.sk_model.specs.Lines.{lines_of, open_lines_of, AreWithin, IsFirstLong}
use Rattle.sk_model.proofs.Missing.{begins_more}
use Rattle.sk_model.proofs.Lines.{long_stays_long, lines_are_few}
use Rattle.sk_lines.specs.Cutter.{Cutter, Follows, IsLongAfter, is_long, counted}
use Rattle.sk_lines.specs.Runs.{GivesRun, run_between}
use Rattle.sk_lines.specs.Spans.{GivesLines, lines_at}
use Rattle.sk_lines.specs.declared.spans.Span.{Span}
use Rattle.sk_lines.specs.declared.cutter.Next.{Next}
use Rattle.sk_lines.specs.declared.cutter.Next.TheVariants as next
use Rattle.sk_read.specs.Reading.{Reading, HasGiven, HasRead, HaveEnded, Goes, Stands, ComesLong, GivesLine, IsLongNext, IsLongLast}
use Rattle.sk_read.specs.Reads.{piece_limit, IsSettled, IsInTime}
use Rattle.sk_read.specs.Units.{complete_units_of}
use Rattle.sk_read.specs.declared.units.Units.{Units}
use Rattle.sk_read.specs.declared.units.Units.TheVariants.{Lines}
use Rattle.sk_read.specs.declared.reader.LineFault.{LineFault}
use Rattle.sk_read.specs.declared.reader.LineFault.TheVariants as fault
use Rattle.sk_model.specs.Missing.{Begins}
use Rattle.sk_lines.proofs.Steps.{given_lines_stay}
use Rattle.std.proofs.lemmas.List.{length-map, nil_from_length}
use Rattle.std.proofs.lemmas.List.Elements.{All-cons, All-nil}
use Rattle.sk_read.proofs.ItemLaws.{front_is}
use Rattle.std.specs.Io.KnownBytes.{IsAtEnd}
use Rattle.sk_model.specs.Limits.{line_limit, source_limit}

-- a line that is too long has its own number, since few bytes make few lines
pub long_next : (limit n most : ℕ) (c : Cutter) (given : List (List ℕ)) (taken : List ℕ) → length taken ≤ most → most ≤ source_limit → Follows c given taken →
    IsLongAfter limit n given (open_lines_of taken) → (n ≡ length given + 1) × ((rest : List ℕ) → ComesLong limit given (lines_of (taken ++ rest)))
long_next limit n most c given taken within few follows long =
    let lines = lines_are_few (taken ++ 10 ∷ []) in
    let number : n ≡ length given + 1 = omega (arith, long.number, long.first.0, lines, length-append taken (10 ∷ [])) in
    (number, λ rest. record { begins = given_lines_stay c given taken rest follows; first = long_stays_long limit (length given) taken rest long.first })

pub long_last : (limit n most : ℕ) (c : Cutter) (given : List (List ℕ)) (taken : List ℕ) → length taken ≤ most → most ≤ source_limit → Follows c given taken →
    IsLongAfter limit n given (lines_of taken) → (n ≡ length given + 1) × ComesLong limit given (lines_of taken)
long_last limit n most c given taken within few follows long =
    let number : n ≡ length given + 1 = omega (arith, long.number, long.first.0, lines_are_few taken) in (
      number,
      record {
        begins = subst (λ (l : List ℕ). Begins given (lines_of l)) (append-nil taken) (given_lines_stay c given taken [] follows);
        first = long.first;
      },
    )

more_is_not_long : (n : ℕ) → next.More ≡ next.Long n → ⊥
more_is_not_long n same = cc

pub long_cut : (r : Reading) (result : Next) (n : ℕ) → r.cutter.ended ≡ r.ended → r.taken ≤ source_limit →
    (r.cutter.ended ≡ true → is_long r.cutter.last ≡ false → result ≡ next.More) →
    ((m : ℕ) → result ≡ next.Long m → r.cutter.ended ≡ false → (given : List (List ℕ)) (text : List ℕ) → Follows r.cutter given text → IsLongAfter r.cutter.limit m given (open_lines_of text)) →
    result ≡ next.Long n → IsLongNext r n
long_cut r result n same few after_end long is given taken has = go r.ended refl
  where
    go : (b : Bool) → r.ended ≡ b → (n ≡ length given + 1) × ((rest : List ℕ) → ComesLong r.cutter.limit given (lines_of (taken ++ rest)))
    go true ended = absurd (more_is_not_long n (sym (after_end (same ∙ ended) has.going) ∙ is))
    go false ended = long_next r.cutter.limit n (source_limit) r.cutter given taken (omega (arith, has.count)) (omega arith) (has.follows ended) (long n is (same ∙ ended) given taken (has.follows ended))

pub long_end : (r : Reading) (n : ℕ) → r.ended ≡ false → r.taken ≤ source_limit →
    ((given : List (List ℕ)) (text : List ℕ) → Follows r.cutter given text → IsLongAfter r.cutter.limit n given (lines_of text)) → IsLongLast r n
long_end r n not_ended few long given taken has = long_last r.cutter.limit n (source_limit) r.cutter given taken (omega (arith, has.count)) (omega arith) (has.follows not_ended) (long given taken (has.follows not_ended))

-- what comes first in every text that continues from here
pub given_settled : (r : Reading) (left : Option (List ℕ)) (given : List (List ℕ)) (taken : List ℕ) → HasRead r left given taken → IsSettled (λ (text : List ℕ). Begins given (lines_of text)) left taken
given_settled r left given taken read = go r.ended refl
  where
    go : (b : Bool) → r.ended ≡ b → IsSettled (λ (text : List ℕ). Begins given (lines_of text)) left taken
    go true ended = inr (read.end ended, ([], read.has.whole ended ∙ sym (append-nil given)))
    go false going = inl (λ later. given_lines_stay r.cutter given taken later (read.has.follows going))

-- a step of the reader
pub read_on : (old new : Reading) (left now : Option (List ℕ)) (given more : List (List ℕ)) (taken fed : List ℕ) → HasRead old left given taken → HasGiven new more fed → (new.ended ≡ true → IsAtEnd now) →
    new.cutter.limit ≡ old.cutter.limit → new.most ≡ old.most → new.taken ≤ new.most → IsInTime new.last Lines more fed → HasRead new now more fed
read_on old new left now given more taken fed read has end limit most bound in_time = record {
  has = has;
  end = end;
  limit = limit ∙ read.limit;
  bound = bound;
  few = omega (arith, most, read.few);
  in_time = in_time;
}

-- a read more than these bytes is as good
pub in_time_within : {a b : ℕ} (units : Units) (given : List (List ℕ)) (taken : List ℕ) → a ≤ b → IsInTime a units given taken → IsInTime b units given taken
in_time_within {a} {b} units given taken within is = record {
  front = is.front;
  piece = is.piece;
  joined = is.joined;
  size = omega (arith, is.size, within);
  few = is.few;
  sound = is.sound;
  earlier = is.earlier;
}

-- no read is longer than a piece may be
pub in_time_ever : {a : ℕ} (units : Units) (given : List (List ℕ)) (taken : List ℕ) → IsInTime a units given taken → IsInTime piece_limit units given taken
in_time_ever {a} units given taken is = record {
  front = is.front;
  piece = is.piece;
  joined = is.joined;
  size = is.few;
  few = is.few;
  sound = is.sound;
  earlier = is.earlier;
}

-- more lines were given
pub in_time_more : {a b : ℕ} (units : Units) (given more : List (List ℕ)) (taken : List ℕ) → a ≤ b → IsInTime a units given taken → IsInTime b units (given ++ more) taken
in_time_more {a} {b} units given more taken within is = record {
  front = is.front;
  piece = is.piece;
  joined = is.joined;
  size = omega (arith, is.size, within);
  few = is.few;
  sound = is.sound;
  earlier = begins_more (complete_units_of units is.front) given more is.earlier;
}

-- lines that were held are given: after the end there is none
given_lines : (old new : Reading) (lines : List (List ℕ)) (given : List (List ℕ)) (taken : List ℕ) → ((given : List (List ℕ)) (text : List ℕ) → Follows old.cutter given text → Follows new.cutter (given ++ lines) text)
    → new.cutter.number ≡ counted (old.cutter.number + length lines) → new.cutter.limit ≡ old.cutter.limit → new.cutter.last ≡ old.cutter.last → new ≡ record old { cutter = new.cutter } → (old.ended ≡ true → lines ≡ [])
    → HasGiven old given taken → HasGiven new (given ++ lines) taken
given_lines old new lines given taken follows number limit last stays none has = record {
  follows = λ going. follows given taken (has.follows (sym ended ∙ going));
  whole = λ over. has.whole (sym ended ∙ over) ∙ sym (no_more (sym ended ∙ over));
  within = within old.ended refl;
  going = ap is_long last ∙ has.going;
  number = omega (arith, number, has.number, length-append given lines);
  size = λ over. omega (arith, has.size (sym ended ∙ over), ap (λ (r : Reading). r.most) stays, ap (λ (r : Reading). r.taken) stays);
  count = has.count ∙ sym (ap (λ (r : Reading). r.taken) stays);
}
  where
    ended : new.ended ≡ old.ended
    ended = ap (λ (r : Reading). r.ended) stays

    no_more : old.ended ≡ true → given ++ lines ≡ given
    no_more over = ap (λ (l : List (List ℕ)). given ++ l) (none over) ∙ append-nil given

    within : (b : Bool) → old.ended ≡ b → AreWithin new.cutter.limit (given ++ lines)
    within true over = subst (λ (m : ℕ). AreWithin m (given ++ lines)) (sym limit) (subst (AreWithin old.cutter.limit) (sym (no_more over)) has.within)
    within false going = (follows given taken (has.follows going)).within

pub given_more : (old new : Reading) (spans : List Span) (given : List (List ℕ)) (taken : List ℕ) → GivesLines old.cutter new.cutter spans → new ≡ record old { cutter = new.cutter } → (old.ended ≡ true → spans ≡ []) →
    HasGiven old given taken → HasGiven new (given ++ lines_at spans new.cutter.front) taken
given_more old new spans given taken gives stays none =
    given_lines old new (lines_at spans new.cutter.front) given taken gives.follows
    (omega (arith, gives.number, length-map spans (λ (span : Span). slice_range new.cutter.front span.from span.to)))
    (ap (λ (c : Cutter). c.limit) gives.stays) (ap (λ (c : Cutter). c.last) gives.stays) stays (λ over. ap (λ (l : List Span). lines_at l new.cutter.front) (none over))

pub given_run : (old new : Reading) (n : ℕ) (given : List (List ℕ)) (taken : List ℕ) → GivesRun old.cutter new.cutter n → new ≡ record old { cutter = new.cutter } → (old.ended ≡ true → n ≡ 0) →
    HasGiven old given taken → HasGiven new (given ++ lines_of (run_between old.cutter new.cutter)) taken
given_run old new n given taken gives stays none =
    given_lines old new (lines_of (run_between old.cutter new.cutter)) given taken gives.follows
    (omega (arith, gives.number, gives.is.count))
    (ap (λ (c : Cutter). c.limit) gives.stays) (ap (λ (c : Cutter). c.last) gives.stays) stays (λ over. nil_from_length _ (gives.is.count ∙ none over))

-- for each line given, at least one byte fewer is held
pub fewer_by_run : (old new : Cutter) (n : ℕ) → GivesRun old new n → length new.rest + n ≤ length old.rest
fewer_by_run old new n gives = omega (arith, ap length gives.rest, length-append (run_between old new) new.rest, lines_are_few (run_between old new), gives.is.count)

-- for each line given, at least one byte fewer is held
pub fewer_left : (old new : Cutter) (spans : List Span) (n : ℕ) → GivesLines old new spans → length spans ≡ n → length new.rest + n ≤ length old.rest
fewer_left old new spans n gives count = omega (arith, ap length gives.bytes, length-append old.front old.rest, length-append new.front new.rest, gives.grows, count)

pub have_ended : (r : Reading) (given : List (List ℕ)) (taken : List ℕ) → r.cutter.limit ≡ line_limit → Stands r given taken → HaveEnded given taken
have_ended r given taken limit stands = (
  ap (λ (l : List (List ℕ)). take (length l - 1) l) stands.lines ∙ less_one given (strip_carriage_return r.cutter.rest),
  subst (λ (m : ℕ). AreWithin m (open_lines_of taken)) limit stands.within,
)
  where
    less_one : (xs : List (List ℕ)) (y : List ℕ) → take (length (xs ++ y ∷ []) - 1) (xs ++ y ∷ []) ≡ xs
    less_one xs y = ap (λ (m : ℕ). take m (xs ++ y ∷ [])) (omega (arith, length-append xs (y ∷ []))) ∙ front_is xs (xs ++ y ∷ []) (y ∷ [], refl)

-- a piece more after lines of which all that ended were given
pub fed_in_time : (last : ℕ) (given : List (List ℕ)) (taken more : List ℕ) → HaveEnded given taken → last ≡ length more → length more ≤ piece_limit → IsInTime last Lines given (taken ++ more)
fed_in_time last given taken more ended is size = record {
  front = taken;
  piece = more;
  joined = refl;
  size = omega (arith, is);
  few = size;
  sound = ended.1;
  earlier = ([], sym (ap (λ (l : List (List ℕ)). l ++ []) ended.0 ∙ append-nil given) ∙ refl);
}

-- the next line is too long
pub goes_long : (old r : Reading) (left : Option (List ℕ)) (given : List (List ℕ)) (taken : List ℕ) (n : ℕ) → HasRead old left given taken → r.most ≡ old.most → r.last ≡ old.last → IsLongNext old n → Goes r left given taken (Err (fault.LongLine n))
goes_long old r left given taken n read most same long =
    let found = long given taken read.has in (
      found.0,
      omega (arith, read.has.count, read.bound, most),
      in_time_within Lines given taken (omega (arith, same)) read.in_time,
      inl (λ later. (
        (found.1 later).begins,
        subst (λ (m : ℕ). IsFirstLong m (length given) (lines_of (taken ++ later))) read.limit (found.1 later).first,
      )),
    )

-- no line came, for the source or for the bound
pub goes_err : (r : Reading) (left : Option (List ℕ)) (given : List (List ℕ)) (taken : List ℕ) (s : LineFault) (result : Result Bool LineFault) → IsErrAnd result (λ (x : LineFault). x ≡ s) → HaveEnded given taken →
    (s ≡ fault.ReadFault → length taken < r.most) → (s ≡ fault.TooMuch → length taken ≡ r.most) → ((n : ℕ) → s ≡ fault.LongLine n → ⊥) → Goes r left given taken result
goes_err r left given taken s (Ok b) is ended less full no_long = absurd is
goes_err r left given taken s (Err fault.ReadFault) is ended less full no_long = (ended, less (sym is))
goes_err r left given taken s (Err fault.TooMuch) is ended less full no_long = (ended, full (sym is))
goes_err r left given taken s (Err (fault.LongLine n)) is ended less full no_long = absurd (no_long n (sym is))

-- an error that is passed on
pub goes_passed : (r : Reading) (left : Option (List ℕ)) (given : List (List ℕ)) (taken : List ℕ) (s : LineFault) (result : Result Bool LineFault) → IsErrAnd result (λ (x : LineFault). x ≡ s) → Goes r left given taken (Err s) → Goes r left given taken result
goes_passed r left given taken s (Ok b) is goes = absurd is
goes_passed r left given taken s (Err why) is goes = subst (λ (x : LineFault). Goes r left given taken (Err x)) (sym is) goes

-- how the end of a source was found
pub goes_end : (old r : Reading) (left : Option (List ℕ)) (given : List (List ℕ)) (taken : List ℕ) (result : Result Bool LineFault) → HasRead old left given taken → IsAtEnd left →
    r.cutter.limit ≡ old.cutter.limit → r.most ≡ old.most → r.taken ≡ old.taken → r.last ≡ old.last → r.ended ≡ true → (result ≡ Ok true → GivesLine old r) →
    (result ≡ Ok false → (given : List (List ℕ)) (taken : List ℕ) → HasGiven old given taken → (lines_of taken ≡ given) × HasGiven r given taken) →
    ((n : ℕ) → result ≡ Err (fault.LongLine n) → IsLongLast old n) → result ≢ Err fault.ReadFault → result ≢ Err fault.TooMuch → Goes r left given taken result
goes_end old r left given taken (Ok true) read end limit most same last ended line none long no_read no_much = (
  read_on old r left left given (given ++ r.cutter.line ∷ []) taken taken read (line refl given taken read.has) (λ _. end) limit most (omega (arith, same, most, read.bound))
      (in_time_more Lines given (r.cutter.line ∷ []) taken (omega (arith, last)) read.in_time),
  in_time_within Lines given taken (omega (arith, last)) read.in_time,
)
goes_end old r left given taken (Ok false) read end limit most same last ended line none long no_read no_much =
    (read_on old r left left given given taken taken read (none refl given taken read.has).1 (λ _. end) limit most (omega (arith, same, most, read.bound)) (in_time_within Lines given taken (omega (arith, last)) read.in_time), ended)
goes_end old r left given taken (Err fault.ReadFault) read end limit most same last ended line none long no_read no_much = absurd (no_read refl)
goes_end old r left given taken (Err fault.TooMuch) read end limit most same last ended line none long no_read no_much = absurd (no_much refl)
goes_end old r left given taken (Err (fault.LongLine n)) read end limit most same last ended line none long no_read no_much =
    let found = long n refl given taken read.has in (
      found.0,
      omega (arith, read.has.count, read.bound, most),
      in_time_within Lines given taken (omega (arith, last)) read.in_time,
      inr (end, (found.1.begins, subst (λ (m : ℕ). IsFirstLong m (length given) (lines_of taken)) read.limit found.1.first)),
    )

-- before the first read
pub nothing_read : (last : ℕ) → IsInTime last Lines [] []
unfolding lines_of
nothing_read last = record {
  front = [];
  piece = [];
  joined = refl;
  size = omega arith;
  few = omega arith;
  sound = All-cons (λ (l : List ℕ). length l ≤ line_limit) [] [] (omega arith) (All-nil (λ (l : List ℕ). length l ≤ line_limit));
  earlier = ([], refl);
}

-- what a reader without its given lines and without its last line has read
abbrev pub moved : Reading → Reading
moved r = record r { cutter = record r.cutter { front = []; line = [] } }

follows_moved : (c : Cutter) (given : List (List ℕ)) (text : List ℕ) → Follows c given text → Follows (record c { front = []; line = [] }) given text
follows_moved c given text f = record { front = f.front; joined = f.joined; whole = f.whole; lines = f.lines; count = f.count; within = f.within }

pub read_moved : (r : Reading) (left : Option (List ℕ)) (given : List (List ℕ)) (taken : List ℕ) → HasRead r left given taken → HasRead (moved r) left given taken
read_moved r left given taken read = record {
  has = record {
    follows = λ going. follows_moved r.cutter given taken (read.has.follows going);
    whole = read.has.whole;
    within = read.has.within;
    going = read.has.going;
    number = read.has.number;
    size = read.has.size;
    count = read.has.count;
  };
  end = read.end;
  limit = read.limit;
  bound = read.bound;
  few = read.few;
  in_time = read.in_time;
}
