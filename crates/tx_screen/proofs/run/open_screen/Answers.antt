use Rattle.std.proofs.Common.{inl, inr, map, Global, arith}
use Rattle.std.specs.String.{string_bytes}
use Rattle.tx_screen.proofs.Endings.{if_ok_map, if_err_map, out_of_memory}
use Rattle.tx_screen.proofs.run.open_screen.Goals as goal

pub returns-in-Opened-clause-begins : goal.returns-in-Opened-clause-begins
returns-in-Opened-clause-begins g c =
    if_ok_map c.begin.result
    (λ screen e. record {
      all = c.in-Opened.all;
      comes = inl c.in-Opened.ensures.comes;
      loaded = (c.open.ensures.files_kept, c.open.ensures.store_goes_on);
      counted = omega (arith, c.in-Opened.ensures.counted, c.begin.ensures.counted);
      starts = e;
    })
    c.begin.ensures.session

pub returns-in-Opened-clause-unopened : goal.returns-in-Opened-clause-unopened
returns-in-Opened-clause-unopened g c =
    if_err_map c.begin.result
    (λ ending e. out_of_memory (map (string_bytes {Z = Global}) c.args.words.now) (g.S.Store.seen c.args.store.now)
    (g.S.Store.seen c.open.new.store) (c.open.ensures.files_kept, c.open.ensures.store_goes_on) ending e)
    c.begin.ensures.memory

pub returns-in-Generated-clause-begins : goal.returns-in-Generated-clause-begins
returns-in-Generated-clause-begins g c =
    if_ok_map c.begin-in-Generated.result
    (λ screen e. record {
      all = c.in-Generated.all;
      comes = inr c.in-Generated.ensures.comes;
      loaded = (c.open.ensures.files_kept, c.open.ensures.store_goes_on);
      counted = omega (arith, c.in-Generated.ensures.counted, c.begin-in-Generated.ensures.counted);
      starts = e;
    })
    c.begin-in-Generated.ensures.session

pub returns-in-Generated-clause-unopened : goal.returns-in-Generated-clause-unopened
returns-in-Generated-clause-unopened g c =
    if_err_map c.begin-in-Generated.result
    (λ ending e. out_of_memory (map (string_bytes {Z = Global}) c.args.words.now) (g.S.Store.seen c.args.store.now)
    (g.S.Store.seen c.open.new.store) (c.open.ensures.files_kept, c.open.ensures.store_goes_on) ending e)
    c.begin-in-Generated.ensures.memory
