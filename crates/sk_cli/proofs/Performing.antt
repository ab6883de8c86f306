-- How a command goes over the standard input or over a file.
use Rattle.std.proofs.Common.{◌≡◌, ℕ, List, Option, Some, None, Result, Ok, Err, ap, ◌∙◌, arith}
use Rattle.std.specs.Result.{MatchResult}
use Rattle.sk_io.specs.Files.{told_file}
use Rattle.sk_cli.specs.Command.{OneText, behaviour_of}
use Rattle.sk_cli.specs.Fault.{status_of}
use Rattle.sk_cli.specs.Outside.{Streams, Outside, over_input, over_file, beside_in}
use Rattle.sk_cli.specs.Run.{Ends, Executes, SucceedsText, FailsText}
use Rattle.sk_cli.specs.Values.{Word}
use Rattle.sk_cli.specs.declared.command.Command.{Command}
use Rattle.sk_cli.specs.declared.fault.Fault.{Fault}
use Rattle.sk_cli.specs.declared.fault.Fault.TheVariants as fault

-- streams that agree in what they have left, in what was written and in their counts
pub streams_are : (x y : Streams) → x.left ≡ y.left → x.last ≡ y.last → x.read_faults ≡ y.read_faults → x.written ≡ y.written → x.write_faults ≡ y.write_faults → x ≡ y
streams_are x y left last reads written writes =
    ap (λ (l : Option (List ℕ)). record x { left = l }) left ∙ ap (λ (n : ℕ). record x { left = y.left; last = n }) last
    ∙ ap (λ (n : ℕ). record x { left = y.left; last = y.last; read_faults = n }) reads
    ∙ ap (λ (w : Option (List ℕ)). record y { written = w; write_faults = x.write_faults }) written ∙ ap (λ (n : ℕ). record y { write_faults = n }) writes

-- a command over at most one text was done, or ended by a fault in its place
abbrev pub TextDone : OneText → ℕ → Outside → Outside → Result (Unit {0}) Fault → Type 0
TextDone asked most old new result = MatchResult result (λ _. SucceedsText asked most old new) (λ fault. FailsText asked most old new fault)

module _ (command : Command) (most : ℕ) (old new : Outside) where
  pub performs_over_input : (r : Result (Unit {0}) Fault) → Executes (behaviour_of command) most (beside_in old) (beside_in new) (over_input old) (over_input new) r → TextDone (record { command = command; file = None }) most old new r
  performs_over_input (Ok x) went = went
  performs_over_input (Err f) went = fails f went
    where
      fails : (f : Fault) → Ends (behaviour_of command) most (beside_in old) (beside_in new) (over_input old) (over_input new) f → FailsText (record { command = command; file = None }) most old new f
      fails fault.OpenFault ends = absurd ends
      fails f ends = ends

  -- a run ends by the status of words that are no command at no fault
  pub text_not_usage : (file : Option Word) (f : Fault) → FailsText (record { command = command; file = file }) most old new f → status_of f ≡ 2 → ⊥
  text_not_usage None fault.Usage fails is = fails
  text_not_usage (Some name) fault.Usage fails is = fails
  text_not_usage file f fails is = absurd (omega (arith, is))

  pub performs_over_file : (name : Word) (r : Result (Unit {0}) Fault) → Executes (behaviour_of command) most (beside_in old) (beside_in new) (over_file (told_file old.files name) old) (over_file new.file_left new) r →
      TextDone (record { command = command; file = Some name }) most old new r
  performs_over_file name (Ok x) went = went
  performs_over_file name (Err f) went = fails f went
    where
      fails : (f : Fault) → Ends (behaviour_of command) most (beside_in old) (beside_in new) (over_file (told_file old.files name) old) (over_file new.file_left new) f → FailsText (record { command = command; file = Some name }) most old new f
      fails fault.OpenFault ends = absurd ends
      fails f ends = ends
