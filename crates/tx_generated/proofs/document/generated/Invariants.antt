use Rattle.std.proofs.Common.{◌≡◌, ◌++◌, ◌∷◌}
use Rattle.std.specs.Prelude.{codes, flat_map}
use Rattle.std.specs.Fn.{iterate}
use Rattle.std.specs.List.{range_with_len}
use Rattle.tx_generated.specs.Document.{drawn_number, next, generated_paragraph}
use Rattle.tx_generated.proofs.document.generated.Given as goal

abbrev pub invariant-loop-i : goal.invariant-loop-i
invariant-loop-i l =
    record {
      number : l.x ≡ iterate next l.i l.number;
      text : l.text.items
          ≡ codes "<assign|v|tree>"
          ++ flat_map (λ i. 10 ∷ 10 ∷ generated_paragraph (drawn_number l.number i)) (range_with_len 1 l.i);
    }
