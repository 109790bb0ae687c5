-- How a printer comes on, piece by piece.
use Rattle.std.proofs.Common.{◌≡◌, ℕ, true, false, List, [], ◌++◌, Result, Ok, Err, is_err, OnErr}
use Rattle.std.proofs.Common.{sym, ap, subst, ◌∙◌, append_assoc}
use Rattle.std.proofs.lemmas.List.{append-nil}
use Rattle.std.specs.Io.KnownBytes.{append_known}
use Rattle.tx_outside.specs.declared.faults.WriteFault.{WriteFault}
use Rattle.tx_outside.specs.Counts.{Rose}
use Rattle.tx_outside.specs.Known.{AppendsPart}
use Rattle.tx_outside.specs.Outside.{SinkGoesOn, SinkSeen}
use Rattle.tx_outside.proofs.Counting.{then_rose}
use Rattle.tx_outside.proofs.GoingOn.{sink_goes_on_refl, sink_goes_on_then}
use Rattle.tx_outside.proofs.Parts.{cut_before, cut_behind}
use Rattle.tx_outside.proofs.Pieces.{append_known-nil, append_known-then}
use Rattle.tx_print.specs.declared.printer.Printer.{Printer}
use Rattle.tx_print.specs.Writing.{IsPrinted}
use Rattle.tx_print.specs.Printers.{PrinterHolds, PrinterStands, PrinterAdds, Ends}

-- two pieces in turn are one piece
pub adds_then : {a b : List ℕ} {p q r : Printer} {x y z : SinkSeen} → PrinterAdds a p x q y → PrinterAdds b q y r z
    → PrinterAdds (a ++ b) p x r z
adds_then {a} {b} {p} {q} {r} {x} {y} {z} first second =
    record {
      given = λ start front stands.
          rw (← append_assoc front a b) (second.given start (front ++ a) (first.given start front stands));
    }

-- nothing was given
pub adds_nothing : {p : Printer} {x : SinkSeen} → PrinterAdds [] p x p x
adds_nothing {p} {x} = record { given = λ start front stands. rw (append-nil front) stands }

-- an equal piece is added alike
pub adds_also : {a b : List ℕ} {p q : Printer} {x y : SinkSeen} → a ≡ b → PrinterAdds a p x q y → PrinterAdds b p x q y
adds_also {a} {b} {p} {q} {x} {y} e adds = subst (λ (c : List ℕ). PrinterAdds c p x q y) e adds

-- what a failed call left
pub if_err : {A E P : Type 0} (r : Result A E) → is_err r ≡ true → OnErr r P → P
if_err (Ok x) failed left = cc
if_err (Err e) failed left = left

-- a new printer
pub stands_new : (p : Printer) (x : SinkSeen) → p.waiting.items ≡ [] → p.failed ≡ false → PrinterStands x [] p x
stands_new p x none fine =
    record {
      holds = rw fine ([], sym (append_known-nil x.written), sym none);
      rose = λ failed. absurd (apart (sym fine ∙ failed));
      goes_on = sink_goes_on_refl x;
    }
  where
    apart : false ≡ true → ⊥
    apart e = cc

-- once the sink has failed, nothing is written
pub adds_failed : {p q : Printer} (piece : List ℕ) (x : SinkSeen) → p.failed ≡ true → q.failed ≡ true
    → PrinterAdds piece p x q x
adds_failed {p} {q} piece x before after =
    record {
      given = λ start front stands. let held : PrinterHolds true front p.waiting.items start.written x.written =
          rw before at stands.holds in
          record {
            holds = rw after (cut_before front piece start.written x.written held);
            rose = λ failed. stands.rose before;
            goes_on = stands.goes_on;
          };
    }

-- a piece waits after the others
pub adds_waiting : {p q : Printer} (piece : List ℕ) (x : SinkSeen) → p.failed ≡ false → q.failed ≡ false
    → q.waiting.items ≡ p.waiting.items ++ piece → PrinterAdds piece p x q x
adds_waiting {p} {q} piece x before after waits =
    record {
      given = λ start front stands. let held : PrinterHolds false front p.waiting.items start.written x.written =
          rw before at stands.holds in
          record {
            holds = rw after (
              held.0,
              held.1,
              ap (λ t. t ++ piece) held.2 ∙ append_assoc held.0 p.waiting.items piece
                  ∙ ap (λ t. held.0 ++ t) (sym waits),
            );
            rose = λ failed. absurd (apart (sym after ∙ failed));
            goes_on = stands.goes_on;
          };
    }
  where
    apart : false ≡ true → ⊥
    apart e = cc

-- what waited is written, and then a piece
pub adds_written : {p q : Printer} (piece : List ℕ) (x y : SinkSeen) → p.failed ≡ false → q.failed ≡ false
    → q.waiting.items ≡ [] → y.written ≡ append_known x.written (p.waiting.items ++ piece) → SinkGoesOn x y
    → PrinterAdds piece p x q y
adds_written {p} {q} piece x y before after none again on =
    record {
      given = λ start front stands. let held : PrinterHolds false front p.waiting.items start.written x.written =
          rw before at stands.holds in
          let sent = held.0 ++ (p.waiting.items ++ piece) in
          record {
            holds = rw after (
              sent,
              append_known-then start.written x.written y.written held.0 (p.waiting.items ++ piece) held.1 again,
              ap (λ t. t ++ piece) held.2 ∙ append_assoc held.0 p.waiting.items piece ∙ sym (append-nil sent)
                  ∙ ap (λ t. sent ++ t) (sym none),
            );
            rose = λ failed. absurd (apart (sym after ∙ failed));
            goes_on = sink_goes_on_then start x y stands.goes_on on;
          };
    }
  where
    apart : false ≡ true → ⊥
    apart e = cc

-- a part of what waited and of a piece is written
pub adds_broken : {p q : Printer} (piece : List ℕ) (x y : SinkSeen) → p.failed ≡ false → q.failed ≡ true
    → AppendsPart (p.waiting.items ++ piece) x.written y.written → Rose x.faults y.faults → SinkGoesOn x y
    → PrinterAdds piece p x q y
adds_broken {p} {q} piece x y before after part rise on =
    record {
      given = λ start front stands. let held : PrinterHolds false front p.waiting.items start.written x.written =
          rw before at stands.holds in
          let whole = ap (λ t. t ++ piece) held.2 ∙ append_assoc held.0 p.waiting.items piece in
          let cut = cut_behind held.0 (p.waiting.items ++ piece) start.written x.written y.written held.1 part in
          record {
            holds = rw after (subst (λ (t : List ℕ). AppendsPart t start.written y.written) (sym whole) cut);
            rose = λ failed. then_rose start.faults x.faults y.faults stands.goes_on.faults rise;
            goes_on = sink_goes_on_then start x y stands.goes_on on;
          };
    }

-- all is written
pub ends_well : {p q : Printer} (x y : SinkSeen) → PrinterAdds [] p x q y → q.failed ≡ false → q.waiting.items ≡ []
    → Ends (Ok tt) p x y
ends_well {p} {q} x y adds fine none =
    record {
      all = λ start text stands. let s : PrinterStands start (text ++ []) q y = adds.given start text stands in
          let held : PrinterHolds false (text ++ []) q.waiting.items start.written y.written = rw fine at s.holds in
          record {
            is_written = held.1 ∙ ap (append_known start.written)
                (sym (append-nil held.0) ∙ ap (λ t. held.0 ++ t) (sym none) ∙ sym held.2 ∙ append-nil text);
            counted = tt;
            goes_on = s.goes_on;
          };
    }

-- the sink has failed
pub ends_badly : {p q : Printer} (fault : WriteFault) (x y : SinkSeen) → PrinterAdds [] p x q y → q.failed ≡ true
    → Ends (Err fault) p x y
ends_badly {p} {q} fault x y adds failed =
    record {
      all = λ start text stands. let s : PrinterStands start (text ++ []) q y = adds.given start text stands in
          let held : PrinterHolds true (text ++ []) q.waiting.items start.written y.written = rw failed at s.holds in
          record { is_written = rw (append-nil text) at held; counted = s.rose failed; goes_on = s.goes_on };
    }

-- a text that a new printer was given is printed
pub printed : {text : List ℕ} {p q : Printer} {x y z : SinkSeen} {result : Result (Unit {0}) WriteFault}
    → p.waiting.items ≡ [] → p.failed ≡ false → PrinterAdds text p x q y → Ends result q y z → IsPrinted result text x z
printed {text} {p} {q} {x} {y} {z} {result} none fine adds ends =
    ends.all x text (adds.given x [] (stands_new p x none fine))
