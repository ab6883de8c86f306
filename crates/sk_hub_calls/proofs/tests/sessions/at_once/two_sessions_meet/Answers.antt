use Rattle.std.proofs.Common.{◌≡◌, ◌<◌, ◌≤◌, ◌+◌, ℕ, zero, suc, [], ◌∷◌, length, get_or, ap, ◌∙◌, arith}
use Rattle.sk_compose.specs.Numbers.{k_of}
use Rattle.sk_hub.specs.Updaters.{UpdaterState, kept_of}
use Rattle.sk_model.specs.Limits.{most_kept}
use Rattle.sk_hub_calls.proofs.tests.sessions.at_once.two_sessions_meet.Goals as goal

both : {A : Type 0} (of : A → UpdaterState) (P : UpdaterState → Type 0) (x y : A) → P (of x) → P (of y) → (i : ℕ) (d : A) → i < 2 → P (of (get_or (x ∷ y ∷ []) i d))
both of P x y one two zero d within = one
both of P x y one two (suc zero) d within = two
both of P x y one two (suc (suc i)) d within = absurd (omega arith)

pub serve_links-requires-clause-k : goal.serve_links-requires-clause-k
serve_links-requires-clause-k g c κs =
    let k : UpdaterState → ℕ = λ u. k_of u.view.numbers in
    both (λ job. job.updater) (λ (u : UpdaterState). k u ≡ c.in_ok-shape.shape.k) c.in_ok-job.field-0 c.in_ok-job-2.field-0
    (ap k c.in_ok-job.ensures ∙ c.in_ok-first.ensures.first) (ap k c.in_ok-job-2.ensures ∙ c.in_ok-first.ensures.second)

few : (u : UpdaterState) → kept_of u ≡ [] → length (kept_of u) + 1000 ≤ most_kept
few u none = omega (arith, ap length none)

pub serve_links-requires-clause-room : goal.serve_links-requires-clause-room
serve_links-requires-clause-room g c κs =
    both (λ job. job.updater) (λ (u : UpdaterState). length (kept_of u) + 1000 ≤ most_kept) c.in_ok-job.field-0 c.in_ok-job-2.field-0
    (few c.in_ok-job.field-0.updater (ap kept_of c.in_ok-job.ensures ∙ c.in_ok-first.ensures.none_in_first)) (few c.in_ok-job-2.field-0.updater (ap kept_of c.in_ok-job-2.ensures ∙ c.in_ok-first.ensures.none_in_second))
