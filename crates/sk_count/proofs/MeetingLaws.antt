-- A token that meets the updaters of a hub, one after another, and gives them notes.
use Rattle.std.proofs.Common.{◌≡◌, ◌≢◌, ◌⊎◌, inl, inr, ⊎_elim, ℕ, zero, suc, ◌+◌, ◌<◌, ◌≤◌, if◌then◌else◌, List, [], ◌∷◌, ◌++◌, length, replicate, get_or, set, get_or-set_same, get_or-set_other, All, refl, sym, ap, subst, ◌∙◌, arith, append-nil, append_assoc}
use Rattle.std.proofs.lemmas.Bool.{cases_lt, cases_eq, eq-eqb, ne_eqb, le-ltb}
use Rattle.std.proofs.lemmas.List.{length-set, replicate_more}
use Rattle.sk_model.specs.Entries.{Entry, entries_by, items_of_entries}
use Rattle.sk_model.specs.Missing.{Begins, LacksAtMost, longer}
use Rattle.sk_model.specs.Sketch.{packed_of}
use Rattle.sk_model.proofs.Missing.{begins_refl, begins_trans}
use Rattle.sk_compose.specs.Numbers.{k_of}
use Rattle.sk_machine.specs.Coarse.{IsEntry}
use Rattle.sk_machine.specs.declared.views.Move.{Move}
use Rattle.sk_machine.specs.declared.views.Move.TheVariants.{Join, Ask, Split}
use Rattle.sk_machine.specs.declared.views.View.{View}
use Rattle.sk_gate.specs.Views.{known_of, size_of, after_join}
use Rattle.sk_gate.specs.Hands.{TokenState}
use Rattle.sk_hub.specs.Updaters.{UpdaterState, handed_of, base_of}
use Rattle.sk_hub.specs.Replies.{IsRelaxedReply, IsOwnReply, known_size}
use Rattle.sk_hub.proofs.Kept.{met_lacks}
use Rattle.sk_machine.proofs.Coarse.{entries_by_begins}
use Rattle.sk_feed.specs.Hubs.{Hub, IsHub, IsUpdaterAt, LeavesHub, IsLeft, HeartGoesOn, TokenGoesOn}
use Rattle.sk_count.specs.Hubs.{MeetsNotes, AsksHub}
use Rattle.sk_count.specs.Meets.{noted, MayMeet, MayMeetAll, Meets, MeetsFirst, AreNoted, split_off, Hears, FirstHear}

-- ---- one note

-- of two sizes the second is not known
pub known_size_first : (a b : ℕ) → b ≡ 0 → known_size a b ≡ a
known_size_first a b none = ⊎_elim
    (λ (is : a ≡ 0). ap (λ c. if c then b else a) (eq-eqb a 0 is) ∙ none ∙ sym is)
    (λ (other : a ≢ 0). ap (λ c. if c then b else a) (ne_eqb a 0 other))
    (cases_eq a 0)

-- what is longer than nothing
pub longer_nothing : {A : Type 0} (xs ys : List A) → ys ≡ [] → longer xs ys ≡ xs
longer_nothing xs ys none = ap (λ c. if c then ys else xs) (le-ltb (length xs) (length ys) (omega (arith, ap length none)))

-- ---- a token that goes on

pub token_refl : (t : TokenState) → TokenGoesOn t t
token_refl t = record { table = refl; numbers = refl; name = refl; sized = refl; seen = begins_refl t.view.seen; steps = begins_refl t.view.steps }

pub token_trans : (t u v : TokenState) → TokenGoesOn t u → TokenGoesOn u v → TokenGoesOn t v
token_trans t u v a b = record {
  table = b.table ∙ a.table;
  numbers = b.numbers ∙ a.numbers;
  name = b.name ∙ a.name;
  sized = b.sized ∙ a.sized;
  seen = begins_trans _ _ _ a.seen b.seen;
  steps = begins_trans _ _ _ a.steps b.steps;
}

-- ---- notes, one after another

pub none_met : (t : TokenState) (us : List UpdaterState) → MeetsFirst t us 0 t
unfolding MeetsNotes
none_met t us = record {
  goes = token_refl t;
  bases = λ i d within. absurd (omega arith);
  fills = λ i d within. absurd (omega arith);
  known = λ i d within. absurd (omega arith);
  others = λ i after. refl;
  size = λ i d within. absurd (omega arith);
  sizes = λ i after. refl;
  steps = ([], refl, sym (append-nil t.view.steps));
}

pub none_noted : (us : List UpdaterState) → AreNoted us 0 us
none_noted us = record { count = refl; first = λ i d within. absurd (omega arith); others = λ i d after. refl }

-- what is so of the first n and of the next is so of one more
one_more : (P : ℕ → Type 0) (n : ℕ) → ((i : ℕ) → i < n → P i) → P n → (i : ℕ) → i < n + 1 → P i
one_more P n first next i within = ⊎_elim (λ (front : i < n). first i front) (λ (back : n ≤ i). let same : n ≡ i = omega arith in subst P same next) (cases_lt i n)

pub notes_more : (n word : ℕ) (steps : List Move) → MeetsNotes n steps → MeetsNotes (n + 1) (steps ++ Join ∷ Ask word ∷ [])
unfolding MeetsNotes
notes_more n word steps met = let same : suc n ≡ n + 1 = omega arith in subst (λ m. MeetsNotes m (steps ++ Join ∷ Ask word ∷ [])) same (steps, word, refl, met)

pub meets_more : (t : TokenState) (us : List UpdaterState) (n : ℕ) (t1 t2 : TokenState) (u : UpdaterState) → ((d : UpdaterState) → get_or us n d ≡ u) → u.number ≡ n → MeetsFirst t us n t1 → Meets t1 u t2 → MeetsFirst t us (n + 1) t2
meets_more t us n t1 t2 u at number first next = record {
  goes = token_trans t t1 t2 first.goes next.goes;
  bases = λ i d within. one_more (λ j. Begins (base_of (get_or us j d)) t2.view.seen) n (λ j front. begins_trans _ _ _ (first.bases j d front) next.goes.seen)
      (subst (λ v. Begins (base_of v) t2.view.seen) (sym (at d)) next.based) i within;
  fills = λ i d within. one_more (λ j. length (get_or us j d).fill ≤ (get_or us j d).size) n (λ j front. first.fills j d front)
      (subst (λ v. length v.fill ≤ v.size) (sym (at d)) next.fill) i within;
  known = λ i d within. one_more (λ j. known_of t2.view j ≡ handed_of (get_or us j d)) n
      (λ j front. next.others j (λ same. absurd (omega (arith, same, number))) ∙ first.known j d front)
      (ap (λ j. known_of t2.view j) (sym number) ∙ next.known ∙ ap (λ v. handed_of v) (sym (at d))) i within;
  others = λ i after. next.others i (λ same. absurd (omega (arith, same, number))) ∙ first.others i (omega arith);
  size = λ i d within. one_more (λ j. size_of t2.view j ≡ (get_or us j d).size) n
      (λ j front. next.sizes j (λ same. absurd (omega (arith, same, number))) ∙ first.size j d front)
      (ap (λ j. size_of t2.view j) (sym number) ∙ next.size ∙ ap (λ v. v.size) (sym (at d))) i within;
  sizes = λ i after. next.sizes i (λ same. absurd (omega (arith, same, number))) ∙ first.sizes i (omega arith);
  steps = (
    first.steps.0 ++ Join ∷ Ask next.steps.0 ∷ [],
    notes_more n next.steps.0 first.steps.0 first.steps.1,
    next.steps.1 ∙ ap (λ l. l ++ Join ∷ Ask next.steps.0 ∷ []) first.steps.2 ∙ append_assoc t.view.steps first.steps.0 (Join ∷ Ask next.steps.0 ∷ []),
  );
}

-- ---- of a list of updaters

get_or_any : {A : Type 0} (xs : List A) (i : ℕ) (d e : A) → i < length xs → get_or xs i d ≡ get_or xs i e
get_or_any [] i d e within = absurd (omega arith)
get_or_any (x ∷ xs) zero d e within = refl
get_or_any (x ∷ xs) (suc i) d e within = get_or_any xs i d e (omega arith)

pub may_still : (t t1 : TokenState) (us us1 : List UpdaterState) (n : ℕ) (d : UpdaterState) → MayMeetAll t us → n < length us → MeetsFirst t us n t1 → AreNoted us n us1 → MayMeet t1 (get_or us1 n d)
may_still t t1 us us1 n d may within met noted_are =
    let was = may.each n d within in
    let number : (get_or us n d).number ≡ n = may.number n d within in
    subst (MayMeet t1) (sym (noted_are.others n d (omega arith))) (record {
      table = was.table ∙ sym met.goes.table;
      known = subst (λ l. Begins l (handed_of (get_or us n d))) (ap (λ i. known_of t.view i) number ∙ sym (met.others n (omega arith)) ∙ ap (λ i. known_of t1.view i) (sym number)) was.known;
      size = ⊎_elim
          (λ (none : size_of t.view (get_or us n d).number ≡ 0). inl (ap (λ i. size_of t1.view i) number ∙ met.sizes n (omega arith) ∙ ap (λ i. size_of t.view i) (sym number) ∙ none))
          (λ (is : size_of t.view (get_or us n d).number ≡ (get_or us n d).size). inr (ap (λ i. size_of t1.view i) number ∙ met.sizes n (omega arith) ∙ ap (λ i. size_of t.view i) (sym number) ∙ is))
          was.size;
    })

-- the updater at the next place
pub next_met : (t t1 t2 : TokenState) (us us1 : List UpdaterState) (n : ℕ) (d : UpdaterState) → MayMeetAll t us → n < length us → MeetsFirst t us n t1 → AreNoted us n us1 → Meets t1 (get_or us1 n d) t2 → MeetsFirst t us (n + 1) t2
next_met t t1 t2 us us1 n d may within met noted_are next =
    let same : get_or us1 n d ≡ get_or us n d = noted_are.others n d (omega arith) in
    meets_more t us n t1 t2 (get_or us1 n d) (λ e. get_or_any us n e d within ∙ sym same) (ap (λ u. u.number) same ∙ may.number n d within) met next

at_place : (us : List UpdaterState) (n : ℕ) (u d : UpdaterState) → n < length us → get_or (set us n u) n d ≡ u
at_place us n u d inside = rw get_or-set_same

elsewhere : (us : List UpdaterState) (n i : ℕ) (u d : UpdaterState) → i ≢ n → get_or (set us n u) i d ≡ get_or us i d
elsewhere us n i u d other = rw get_or-set_other

pub next_noted : (us us1 : List UpdaterState) (n : ℕ) (u d : UpdaterState) → n < length us → AreNoted us n us1 → u ≡ noted (get_or us1 n d) → AreNoted us (n + 1) (set us1 n u)
next_noted us us1 n u d within noted_are is = record {
  count = length-set us1 n u ∙ noted_are.count;
  first = λ i e before. ⊎_elim
      (λ (front : i < n). let other : i ≢ n = omega arith in elsewhere us1 n i u e other ∙ noted_are.first i e front)
      (λ (back : n ≤ i). let same : n ≡ i = omega arith in subst (λ j. get_or (set us1 n u) j e ≡ noted (get_or us j e)) same
      (at_place us1 n u e (omega (arith, noted_are.count)) ∙ is ∙ ap noted (noted_are.others n d (omega arith) ∙ get_or_any us n d e within)))
      (cases_lt i n);
  others = λ i e after. let other : i ≢ n = omega arith in elsewhere us1 n i u e other ∙ noted_are.others i e (omega arith);
}

pub may_meet_hub : (a : Hub) → IsHub a → MayMeetAll a.token a.updaters
may_meet_hub a is = record {
  number = λ i d within. (is.updaters i d within).number;
  each = λ i d within. let was = is.updaters i d within in record {
    table = was.table ∙ sym is.table;
    known = subst (λ j. Begins (known_of a.token.view j) (handed_of (get_or a.updaters i d))) (sym was.number) was.known;
    size = subst (λ j. (size_of a.token.view j ≡ 0) ⊎ (size_of a.token.view j ≡ (get_or a.updaters i d).size)) (sym was.number) was.size;
  };
}

-- ---- notes that are given

pub split_none : (t : TokenState) → t ≡ split_off 0 t
split_none t = ap (λ steps. record t { view = record t.view { steps = steps } }) (sym (append-nil t.view.steps))

pub split_more : (n : ℕ) (t : TokenState) → split_off 1 (split_off n t) ≡ split_off (n + 1) t
split_more n t = ap (λ steps. record t { view = record t.view { steps = steps } })
    (append_assoc t.view.steps (replicate n Split) (Split ∷ []) ∙ ap (λ l. t.view.steps ++ l) (replicate_more n Split))

pub none_heard : (list : List Entry) (us : List UpdaterState) → FirstHear list us 0 us
none_heard list us = record { count = refl; first = λ i d within. absurd (omega arith); others = λ i d after. refl }

pub next_heard : (list : List Entry) (us us1 : List UpdaterState) (n : ℕ) (u d : UpdaterState) → n < length us → FirstHear list us n us1 → Hears list (get_or us1 n d) u → FirstHear list us (n + 1) (set us1 n u)
next_heard list us us1 n u d within first hears = record {
  count = length-set us1 n u ∙ first.count;
  first = λ i e before. ⊎_elim
      (λ (front : i < n). let other : i ≢ n = omega arith in subst (Hears list (get_or us i e)) (sym (elsewhere us1 n i u e other)) (first.first i e front))
      (λ (back : n ≤ i). let same : n ≡ i = omega arith in subst (λ j. Hears list (get_or us j e) (get_or (set us1 n u) j e)) same
      (subst (Hears list (get_or us n e)) (sym (at_place us1 n u e (omega (arith, first.count))))
      (subst (λ v. Hears list v u) (first.others n d (omega arith) ∙ get_or_any us n d e within) hears)))
      (cases_lt i n);
  others = λ i e after. let other : i ≢ n = omega arith in elsewhere us1 n i u e other ∙ first.others i e (omega arith);
}

pub left_trans : (u v w : UpdaterState) → IsLeft u v → IsLeft v w → IsLeft u w
left_trans u v w a b = record {
  stays = b.stays ∙ λ d. record (a.stays d) { view = w.view; news = w.news };
  handed = b.handed ∙ a.handed;
  base = b.base ∙ a.base;
  numbers = b.numbers ∙ a.numbers;
  name = b.name ∙ a.name;
  sized = b.sized ∙ a.sized;
  seen = begins_trans _ _ _ a.seen b.seen;
  steps = begins_trans _ _ _ a.steps b.steps;
}

-- an updater that met a note, and asked
pub hears_note : (packed : List ℕ → List Entry → ℕ) (list : List Entry) (note : View) (u u' : UpdaterState) (word : ℕ) → IsOwnReply packed (record u { view = after_join u.view note }) word u' → Begins u.view.seen u'.view.seen → Begins list u'.view.seen
    → length u'.view.sizes ≡ length u.view.sizes → Hears list u u'
hears_note packed list note u u' word reply grows heard sized = record {
  left = record {
    stays = reply.stays ∙ λ d. record u { view = (sym reply.stays d).view; news = (sym reply.stays d).news };
    handed = ap handed_of reply.stays;
    base = ap base_of reply.stays;
    numbers = ap (λ z. z.view.numbers) reply.stays;
    name = ap (λ z. z.view.name) reply.stays;
    sized = sized;
    seen = grows;
    steps = (Join ∷ Ask word ∷ [], ap (λ z. z.view.steps) reply.stays ∙ append_assoc u.view.steps (Join ∷ []) (Ask word ∷ []));
  };
  seen = heard;
  own = begins_trans _ _ _ (entries_by_begins u.number list u'.view.seen heard) reply.own;
}

-- ---- all met, asked, and given notes

module _ (a : Hub) (t : TokenState) (us : List UpdaterState) (is : IsHub a) (met : MeetsFirst a.token a.updaters (length a.updaters) t) (noted_are : AreNoted a.updaters (length a.updaters) us) where
  is_left : (u u' : UpdaterState) → u' ≡ noted u → IsLeft u u'
  is_left u u' same = subst (IsLeft u) (sym same) (record {
    stays = refl;
    handed = refl;
    base = refl;
    numbers = refl;
    name = refl;
    sized = refl;
    seen = begins_refl u.view.seen;
    steps = (Split ∷ [], refl);
  })

  -- they are all of the token's table
  pub tables_are : (t' : TokenState) → t'.table ≡ t.table → (i : ℕ) (d : UpdaterState) → i < length us → (get_or us i d).table ≡ t'.table
  tables_are t' table i d within =
      let within' : i < length a.updaters = omega (arith, noted_are.count) in
      ap (λ u. u.table) (noted_are.first i d within') ∙ (is.updaters i d within').table ∙ sym is.table ∙ sym met.goes.table ∙ sym table

  module _ (word : ℕ) (t' : TokenState) (table : t'.table ≡ t.table) (reply : IsRelaxedReply (λ numbers list. packed_of (k_of numbers) (items_of_entries list)) t.view word t'.view)
      (us' : List UpdaterState) (heard : FirstHear t'.view.seen us (length a.updaters) us') where
    -- the hub after all
    abbrev pub b : Hub
    b = record { heart = a.heart; updaters = us'; token = split_off (length a.updaters) t' }

    steps_are : (split_off (length a.updaters) t').view.steps ≡ t.view.steps ++ Ask word ∷ replicate (length a.updaters) Split
    steps_are = ap (λ v. v.steps ++ replicate (length a.updaters) Split) reply.stays ∙ append_assoc t.view.steps (Ask word ∷ []) (replicate (length a.updaters) Split)

    goes : TokenGoesOn t (split_off (length a.updaters) t')
    goes = record {
      table = table;
      numbers = ap (λ v. v.numbers) reply.stays;
      name = ap (λ v. v.name) reply.stays;
      sized = ap (λ v. length v.sizes) reply.stays;
      seen = reply.grows;
      steps = (Ask word ∷ replicate (length a.updaters) Split, steps_are);
    }

    whole : TokenGoesOn a.token (split_off (length a.updaters) t')
    whole = token_trans a.token t (split_off (length a.updaters) t') met.goes goes

    -- what each had handed over is what it has now
    left : (i : ℕ) (d : UpdaterState) → i < length a.updaters → IsLeft (get_or a.updaters i d) (get_or us' i d)
    left i d within = left_trans (get_or a.updaters i d) (get_or us i d) (get_or us' i d) (is_left (get_or a.updaters i d) (get_or us i d) (noted_are.first i d within)) (heard.first i d within).left

    own : (i : ℕ) (d : UpdaterState) → i < length a.updaters → Begins (entries_by i t'.view.seen) (handed_of (get_or a.updaters i d))
    own i d within =
        let u = get_or a.updaters i d in
        let handed : Begins (entries_by u.number t'.view.seen) (handed_of u) = subst (λ v. Begins (entries_by v.number t'.view.seen) (handed_of v)) (noted_are.first i d within) (heard.first i d within).own in
        subst (λ j. Begins (entries_by j t'.view.seen) (handed_of u)) (is.updaters i d within).number handed

    pub asks : AsksHub a word b
    asks = record {
      grows = whole.seen;
      bases = λ i d within. begins_trans _ _ _ (met.bases i d within) reply.grows;
      own = λ i d within. begins_trans _ _ _ (own i d within) ((get_or a.updaters i d).fill, refl);
      lacks = λ i d within. met_lacks (known_of t.view i) (handed_of (get_or a.updaters i d)) (get_or a.updaters i d).fill (entries_by i t'.view.seen) (get_or a.updaters i d).size
          (met.known i d within) (met.fills i d within)
          (λ some. subst (λ size. LacksAtMost (known_of t.view i) (entries_by i t'.view.seen) size) (met.size i d within) (reply.lacks i some));
      fills = λ i d within. met.fills i d within;
      sizes = λ i d within. ap (λ v. size_of v i) reply.stays ∙ met.size i d within;
      entries = subst (λ n. All (IsEntry n) t'.view.seen) (met.goes.sized ∙ is.sized ∙ sym is.count) reply.entries;
      heard = λ i d within. (heard.first i d (omega (arith, heard.count, noted_are.count))).seen;
      word_is = reply.value ∙ ap (λ numbers. packed_of (k_of numbers) (items_of_entries t'.view.seen)) met.goes.numbers;
      steps = (
        met.steps.0 ++ Ask word ∷ replicate (length a.updaters) Split,
        (met.steps.0, met.steps.1, refl),
        steps_are ∙ ap (λ l. l ++ Ask word ∷ replicate (length a.updaters) Split) met.steps.2 ∙ append_assoc a.token.view.steps met.steps.0 (Ask word ∷ replicate (length a.updaters) Split),
      );
    }

    pub leaves : (knows : HeartGoesOn a.heart a.heart) → LeavesHub a b
    leaves knows = record {
      heart = knows;
      count = heard.count ∙ noted_are.count;
      updaters = λ i d within. left i d within;
      token = whole;
    }

    at : (i : ℕ) (d : UpdaterState) → i < length a.updaters → IsUpdaterAt b i (get_or us' i d)
    at i d within =
        let u = get_or a.updaters i d in
        let was = is.updaters i d within in
        let now = left i d within in
        let known : known_of t'.view i ≡ handed_of u = ap (λ v. known_of v i) reply.stays ∙ met.known i d within in record {
          number = ap (λ z. z.number) now.stays ∙ was.number;
          table = ap (λ z. z.table) now.stays ∙ was.table;
          numbers = now.numbers ∙ was.numbers;
          name = now.name ∙ was.name;
          known = ([], now.handed ∙ sym known ∙ sym (append-nil (known_of t'.view i)));
          size = inr (ap (λ v. size_of v i) reply.stays ∙ met.size i d within ∙ sym (ap (λ z. z.size) now.stays));
        }

    pub still_hub : IsHub b
    still_hub = record {
      count = heard.count ∙ noted_are.count ∙ is.count;
      updaters = λ i d within. at i d (omega (arith, heard.count, noted_are.count));
      table = whole.table ∙ is.table;
      sized = whole.sized ∙ is.sized;
      numbers = whole.numbers ∙ is.numbers;
      name = whole.name ∙ is.name;
    }
