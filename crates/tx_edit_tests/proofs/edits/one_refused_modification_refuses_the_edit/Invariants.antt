use Rattle.tx_edit_tests.proofs.edits.one_refused_modification_refuses_the_edit.Given as goal

abbrev pub ghosts-first_untrue : goal.ghosts-first_untrue
ghosts-first_untrue g a = record { name = a.blank.name; parts = a.blank.parts }
