use Rattle.tx_bridge_tests.proofs.opened.boxes_are_opened_at_each_refresh.Given as goal

abbrev pub ghosts-first_untrue : goal.ghosts-first_untrue
ghosts-first_untrue g a = record { name = a.blank.name; parts = a.blank.parts }
