use Rattle.tx_bridge_tests.proofs.moves.parts_go_where_they_stand.Given as goal

abbrev pub ghosts-first_untrue : goal.ghosts-first_untrue
ghosts-first_untrue g a = record { name = a.blank.name; parts = a.blank.parts }
