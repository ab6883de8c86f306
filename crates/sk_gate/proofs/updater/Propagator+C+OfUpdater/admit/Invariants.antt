use Rattle.sk_gate.proofs.updater.Propagator+C+OfUpdater.admit.Given as goal

abbrev pub ghosts-admitted_look : goal.ghosts-admitted_look
ghosts-admitted_look g a = record { size = a.b }
