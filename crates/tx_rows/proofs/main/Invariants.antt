use Rattle.tx_rows.proofs.main.Given as goal

abbrev pub ghosts-try_all : goal.ghosts-try_all
ghosts-try_all a = record { name = a.blank.name; parts = a.blank.parts }
