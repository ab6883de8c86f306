-- What the words of tenants are of, once all desks are taken in, and the text that is made of them.
use Rattle.std.proofs.Common.{◌≡◌, ℕ, ◌+◌, ◌<◌, List, [], ◌∷◌, ◌++◌, length, get_or, take, slice_get, Some, codes, All, flat_map, IsPermutation, refl, sym, ap, subst, ◌∙◌, arith, append-nil, length-set}
use Rattle.std.specs.List.{range_with_len}
use Rattle.std.proofs.lemmas.Grind.{flat_map-append}
use Rattle.std.proofs.lemmas.List.{take_more}
use Rattle.std.proofs.lemmas.List.Sorted.{IsPermutation-sym, Contains-permutation}
use Rattle.std.proofs.lemmas.Option.{get_or_from_slice_get, slice_get_within}
use Rattle.sk_model.specs.Limits.{most_kept}
use Rattle.sk_model.specs.Sketch.{packed_of, fraction_of, estimate_of}
use Rattle.sk_model.proofs.Sketch.{k_smallest_of_members, packed_reads_back}
use Rattle.sk_compose.proofs.Smallest.{same_word}
use Rattle.sk_lines.specs.Fractions.{estimate_line}
use Rattle.sk_fill.specs.Blocks.{blocks_of}
use Rattle.sk_tenant.specs.Calls.{items_taken}
use Rattle.sk_tenant.specs.Desks.{DeskState, calls_for}
use Rattle.sk_tenant.specs.Names.{AreDifferent}
use Rattle.sk_tenant.specs.Hosts.{TenantsState, AreNewTenants, AreNewDesks, AreNumbered, IsDeskOf, DrainsDesks, HasTakenInDesk, AreAskedFor, WasFed}
use Rattle.sk_tenant.proofs.Done.{desk_stays, stays_of_tenants}
use Rattle.sk_tenant.proofs.LastWord.{place_within, word_of_fed, used_is_fed}
use Rattle.sk_tenant.proofs.Standing.{with_member}
use Rattle.sk_desks.specs.declared.plan.Plan.{Plan}
use Rattle.sk_desks.specs.Plans.{IsWithin, AreNames, shape_of}
use Rattle.sk_desks.specs.Desks.{items_for, tenant_line}
use Rattle.sk_desks.specs.Windows.{AreUnused, HaveTaken}
use Rattle.sk_desks.specs.Endings.{AreTheSame, HaveCounted, PutsLine, estimate_in}
use Rattle.sk_desks.proofs.ItemLaws.{are_items}
use Rattle.sk_desks.proofs.BlockLaws.{of_all_blocks}

-- ---- the same tenants

pub same_refl : (hosts : TenantsState) → AreTheSame hosts hosts
same_refl hosts = record { names_are = refl; k_is = refl; n_is = refl; tenants = refl }

pub same_trans : (a b c : TenantsState) → AreTheSame a b → AreTheSame b c → AreTheSame a c
same_trans a b c one two = record { names_are = two.names_are ∙ one.names_are; k_is = two.k_is ∙ one.k_is; n_is = two.n_is ∙ one.n_is; tenants = two.tenants ∙ one.tenants }

pub same_asked : (hosts hosts' : TenantsState) (t word : ℕ) → AreAskedFor hosts t word hosts' → AreTheSame hosts hosts'
same_asked hosts hosts' t word asked = record {
  names_are = ap (λ z. z.names) asked.stays;
  k_is = ap (λ z. z.k) asked.stays;
  n_is = ap (λ z. z.n) asked.stays;
  tenants = ap (λ z. length z.hearts) asked.stays ∙ length-set hosts.hearts t asked.after;
}

pub same_drained : (hosts hosts' : TenantsState) (desks : List DeskState) → DrainsDesks hosts desks hosts' → AreTheSame hosts hosts'
same_drained hosts hosts' desks drained = record {
  names_are = ap (λ z. z.names) drained.stays;
  k_is = ap (λ z. z.k) drained.stays;
  n_is = ap (λ z. z.n) drained.stays;
  tenants = drained.tenants;
}

-- ---- what was counted

pub counted_still : (plan : Plan) (lines : List (List ℕ)) (hosts hosts' : TenantsState) → AreTheSame hosts hosts' → ((d : DeskState) → HasTakenInDesk hosts d → HasTakenInDesk hosts' d) → HaveCounted plan lines hosts → HaveCounted plan lines hosts'
counted_still plan lines hosts hosts' same still counted = record {
  opened = counted.opened;
  first = counted.first;
  last = counted.last;
  new = counted.new;
  unused = subst (λ (l : List (List ℕ)). AreUnused l counted.first) (sym same.names_are) counted.unused;
  taken = counted.taken;
  taken_in = λ i d within. still (get_or counted.last i d) (counted.taken_in i d within);
  k_is = same.k_is ∙ counted.k_is;
  n_is = same.n_is ∙ counted.n_is;
  tenants = same.tenants ∙ counted.tenants ∙ ap length (sym same.names_are);
}

module _ (plan : Plan) (lines : List (List ℕ)) (hosts hosts' : TenantsState) (counted : HaveCounted plan lines hosts) (t word : ℕ) (asked : AreAskedFor hosts t word hosts') (name : List ℕ) (its : slice_get hosts.names t ≡ Some name) where
  -- what its updater of each desk was fed
  abbrev items : ℕ → List ℕ
  items i = items_for plan.seed name (blocks_of counted.taken.windows i (length counted.first))

  fed : (i : ℕ) → i < hosts.n → WasFed hosts t i (items i)
  fed i within = with_member counted.first i inside one
    where
      inside : i < length counted.first
      inside = omega (arith, within, counted.n_is)

      one : DeskState → WasFed hosts t i (items i)
      one d =
          let took = counted.taken.took.each i d inside in
          let desk = get_or counted.first i d in
          let names : desk.names ≡ hosts.names = (counted.unused.each i d inside).names_are in
          let place : t < length desk.names = subst (λ (l : List (List ℕ)). t < length l) (sym names) (slice_get_within hosts.names t name its) in
          let is : items_taken (calls_for t took.calls) ≡ items i =
          took.took t place ∙ ap (λ (n : List ℕ). items_for plan.seed n (blocks_of counted.taken.windows i (length counted.first))) (ap (λ (l : List (List ℕ)). get_or l t []) names ∙ get_or_from_slice_get hosts.names t name [] its) in
          subst (WasFed hosts t i) is (used_is_fed counted.opened hosts (shape_of plan) most_kept t i took.calls (sym counted.k_is) (place_within hosts hosts' t word asked) (record {
            first = desk;
            last = get_or counted.last i d;
            new = counted.new i d inside;
            done = took.done;
            taken_in = counted.taken_in i d (omega (arith, inside, counted.taken.took.count));
          }))

  -- all its items
  whole : List ℕ
  whole = items_for plan.seed name lines

  moved : IsPermutation (flat_map items (range_with_len 0 (length counted.first))) (items_for plan.seed name lines)
  moved = subst (λ (l : List (List ℕ)). IsPermutation (flat_map items (range_with_len 0 (length counted.first))) (items_for plan.seed name l)) (sym counted.taken.joined)
      (of_all_blocks plan.seed name counted.taken.windows (length counted.first) counted.unused.some)

  word_is : word ≡ packed_of plan.k (items_for plan.seed name lines)
  word_is =
      let each = flat_map items (range_with_len 0 (length counted.first)) in
      let all = items_for plan.seed name lines in
      word_of_fed hosts hosts' t word asked items fed
      ∙ ap (λ (k : ℕ). packed_of k (flat_map items (range_with_len 0 hosts.n))) counted.k_is
      ∙ ap (λ (n : ℕ). packed_of plan.k (flat_map items (range_with_len 0 n))) counted.n_is
      ∙ same_word plan.k each all (k_smallest_of_members plan.k each all (λ x. Contains-permutation each all x moved) (λ x. Contains-permutation all each x (IsPermutation-sym each all moved)))

  -- the estimate that is written
  pub estimate_is : estimate_in plan.k word ≡ estimate_of plan.k (items_for plan.seed name lines)
  estimate_is =
      ap (estimate_in plan.k) word_is
      ∙ ap (λ (p : ℕ × ℕ). fraction_of plan.k p.0 p.1) (packed_reads_back plan.k (items_for plan.seed name lines) (are_items plan.seed name lines))

-- ---- its text

-- the line of one tenant more
pub text_more : (plan : Plan) (lines : List (List ℕ)) (hosts hosts' : TenantsState) (t : ℕ) (text text' : List ℕ) → HaveCounted plan lines hosts → PutsLine plan.k t hosts hosts' text text' →
    text ≡ flat_map (tenant_line plan lines) (take t hosts.names) → text' ≡ flat_map (tenant_line plan lines) (take (t + 1) hosts.names)
text_more plan lines hosts hosts' t text text' counted puts so_far =
    let place = slice_get_within hosts.names t puts.name puts.is_at in
    let name : get_or hosts.names t [] ≡ puts.name = get_or_from_slice_get hosts.names t puts.name [] puts.is_at in
    let line : puts.name ++ (codes " " ++ estimate_line (estimate_in plan.k puts.word)) ≡ tenant_line plan lines puts.name =
    ap (λ (e : ℕ × ℕ). puts.name ++ (codes " " ++ estimate_line e)) (estimate_is plan lines hosts hosts' counted t puts.word puts.asked puts.name puts.is_at) in
    puts.written
    ∙ ap (λ (l : List ℕ). text ++ l) (line ∙ sym (append-nil (tenant_line plan lines puts.name)))
    ∙ ap (λ (l : List ℕ). l ++ flat_map (tenant_line plan lines) (puts.name ∷ [])) so_far
    ∙ sym (flat_map-append (tenant_line plan lines) (take t hosts.names) (puts.name ∷ []))
    ∙ ap (λ (n : List ℕ). flat_map (tenant_line plan lines) (take t hosts.names ++ n ∷ [])) (sym name)
    ∙ ap (flat_map (tenant_line plan lines)) (sym (take_more hosts.names t [] place))

-- ---- from the opening on

module _ (plan : Plan) (names : List (List ℕ)) (hosts : TenantsState) (desks : List DeskState) (within : IsWithin plan) (are_names : AreNames names) (new : AreNewTenants names (shape_of plan) hosts) (count : length desks ≡ plan.updaters) (new_desks : AreNewDesks hosts (shape_of plan) most_kept desks) where
  -- new desks are unused
  pub unused_new : AreUnused names desks
  unused_new = record {
    some = omega (arith, count, within.updaters.0);
    few = omega (arith, count, within.updaters.1);
    each = λ i d inside.
        let is = new_desks i d inside in
        let desk = get_or desks i d in
        let same : desk.names ≡ names = is.names_are ∙ new.names_are in
        record {
          has = record { different = subst AreDifferent (sym same) are_names.different; tenants = is.tenants ∙ new.tenants ∙ ap length (sym same) };
          names_are = same;
          quota_is = is.quota_is;
          none = λ t u place. with_member hosts.hearts t (omega (arith, place, is.tenants)) (λ h. (is.updaters t h u place).new.kept);
        };
  }

  module _ (last : List DeskState) (lines : List (List ℕ)) (taken : HaveTaken plan.seed desks last lines) where
    -- desks are of the same tenants after they took lines
    pub desks_still : All (IsDeskOf hosts) desks → All (IsDeskOf hosts) last
    desks_still of_hosts = λ i d inside.
        let before : i < length desks = omega (arith, inside, taken.took.count) in
        let took = taken.took.each i d before in
        stays_of_tenants hosts (get_or desks i d) (get_or last i d) took.calls took.done (of_hosts i d before)

    pub as_many_still : length last ≡ hosts.n
    as_many_still = omega (arith, taken.took.count, count, new.n_is)

    pub numbers_still : AreNumbered last
    numbers_still = λ i d inside.
        let before : i < length desks = omega (arith, inside, taken.took.count) in
        let took = taken.took.each i d before in
        (desk_stays (get_or desks i d) (get_or last i d) took.calls took.done).number ∙ (new_desks i d before).number_is

    -- once they are taken in
    pub counted_then : (hosts' : TenantsState) → AreTheSame hosts hosts' → All (HasTakenInDesk hosts') last → HaveCounted plan lines hosts'
    counted_then hosts' same taken_in = record {
      opened = hosts;
      first = desks;
      last = last;
      new = new_desks;
      unused = subst (λ (l : List (List ℕ)). AreUnused l desks) (sym (same.names_are ∙ new.names_are)) unused_new;
      taken = taken;
      taken_in = taken_in;
      k_is = same.k_is ∙ new.k_is;
      n_is = same.n_is ∙ new.n_is ∙ sym count;
      tenants = same.tenants ∙ new.tenants ∙ ap length (sym (same.names_are ∙ new.names_are));
    }

    -- the text that is made of them is due
    pub text_due : (hosts' : TenantsState) (text : List ℕ) → AreTheSame hosts hosts' → All (HasTakenInDesk hosts') last → ((ls : List (List ℕ)) → HaveCounted plan ls hosts' → text ≡ flat_map (tenant_line plan ls) hosts'.names) →
        text ≡ flat_map (tenant_line plan lines) names
    text_due hosts' text same taken_in its =
        its lines (counted_then hosts' same taken_in) ∙ ap (flat_map (tenant_line plan lines)) (same.names_are ∙ new.names_are)
