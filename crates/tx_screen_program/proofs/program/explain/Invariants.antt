use Rattle.tx_screen_program.proofs.program.explain.Given as goal

abbrev pub ghosts-reason : goal.ghosts-reason
ghosts-reason g a = record { name = a.blank.name; parts = a.blank.parts }
