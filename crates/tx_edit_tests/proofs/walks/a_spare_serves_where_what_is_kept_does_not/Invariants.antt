use Rattle.tx_edit_tests.proofs.walks.a_spare_serves_where_what_is_kept_does_not.Given as goal

abbrev pub ghosts-first_untrue : goal.ghosts-first_untrue
ghosts-first_untrue g a = record { name = a.blank.name; parts = a.blank.parts }
