use Rattle.tx_bridge_tests.proofs.edits.edits_of_nested_paragraphs_reach_their_parts.Given as goal

abbrev pub ghosts-first_untrue : goal.ghosts-first_untrue
ghosts-first_untrue g a = record { name = a.blank.name; parts = a.blank.parts }
