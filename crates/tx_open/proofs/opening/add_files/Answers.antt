use Rattle.std.proofs.Common.{ℕ, List, [], Bor, inl, inr, ◌∙◌, arith}
use Rattle.std.proofs.lemmas.Result.{err_from_is_err_and}
use Rattle.tx_outside.proofs.GoingOn.{store_goes_on_then}
use Rattle.tx_words.specs.declared.asked.FileWord.{FileWord}
use Rattle.tx_open.specs.Openings.{failed_as}
use Rattle.tx_open.specs.Outcomes.{no_memory}
use Rattle.tx_open.proofs.Loads.{last_there, load_more}
use Rattle.tx_open.proofs.Reading.{ends_there, nodes_more, read_more}
use Rattle.tx_open.proofs.opening.add_files.Goals as goal

pub returns-in_err-read_file-clause-failed : goal.returns-in_err-read_file-clause-failed
returns-in_err-read_file-clause-failed g c =
    let p = err_from_is_err_and c.from_residual.result c.from_residual.ensures.1 in
    rw (p.1, p.2)
    (ends_there (g.S.Store.seen c.args.store.now).files (g.S.Store.seen c.loop-file.store).files
    c.loop-file.invariant.files
    c.args.files.now c.loop-file.file-index _ c.loop-file-test.true c.loop-file.buffers.items c.loop-file.invariant.read
    (failed_as c.in_err-read_file.field-0.0) c.in_err-read_file.ensures.failed)

pub returns-in_err-read_file-clause-last : goal.returns-in_err-read_file-clause-last
returns-in_err-read_file-clause-last g c =
    let p = err_from_is_err_and c.from_residual.result c.from_residual.ensures.1 in
    rw (p.1, p.2)
    (last_there g.S.Store.load_leaves c.args.files.now c.loop-file.file-index _ c.loop-file-test.true c.args.store.now
    c.loop-file.store c.loop-file.invariant.loaded g.S.Store.seen c.loop-file.invariant.goes_on
    (failed_as c.in_err-read_file.field-0.0) c.read_file.new.store c.in_err-read_file.ensures.last)

pub returns-in_err-push-clause-last : goal.returns-in_err-push-clause-last
returns-in_err-push-clause-last g c =
    let back = c.from_residual-in_err-push in
    let p = err_from_is_err_and back.result back.ensures.1 in
    rw (p.1, p.2)
    (last_there g.S.Store.load_leaves c.args.files.now c.loop-file.file-index _ c.loop-file-test.true c.args.store.now
    c.loop-file.store c.loop-file.invariant.loaded g.S.Store.seen c.loop-file.invariant.goes_on
    no_memory c.read_file.new.store (inr (inl c.in_ok-read_file.ensures.loaded)))

pub returns-in_err-push-clause-failed : goal.returns-in_err-push-clause-failed
returns-in_err-push-clause-failed g c =
    let back = c.from_residual-in_err-push in
    let p = err_from_is_err_and back.result back.ensures.1 in
    let nothing : Bor (List ℕ) = record { ref_ptr = (0, 0); now = [] } in
    let nowhere : FileWord = record { word = nothing; name = nothing } in
    rw (p.1, p.2)
    (ends_there (g.S.Store.seen c.args.store.now).files (g.S.Store.seen c.loop-file.store).files
    c.loop-file.invariant.files
    c.args.files.now c.loop-file.file-index nowhere c.loop-file-test.true c.loop-file.buffers.items
    c.loop-file.invariant.read no_memory tt)

pub loop-file-preserved : goal.loop-file-preserved
loop-file-preserved g c =
    let more = nodes_more c.loop-file.buffers.items c.in_ok-read_file.field-0 _ c.in_ok-push.ensures.items in
    record {
      read =
          read_more (g.S.Store.seen c.args.store.now).files (g.S.Store.seen c.loop-file.store).files
          c.loop-file.invariant.files
          c.args.files.now c.loop-file.file-index _ c.loop-file-test.true c.loop-file.buffers.items
          c.loop-file.invariant.read c.in_ok-read_file.field-0 _ c.in_ok-push.ensures.items
          c.in_ok-read_file.ensures.read;
      loaded =
          load_more g.S.Store.load_leaves c.args.files.now c.loop-file.file-index _ c.loop-file-test.true
          c.args.store.now c.loop-file.store c.loop-file.invariant.loaded c.read_file.new.store
          c.in_ok-read_file.ensures.loaded;
      steps = omega (arith, c.loop-file.invariant.steps, c.in_ok-read_file.ensures.counted, more);
      files = c.read_file.ensures.files_kept ∙ c.loop-file.invariant.files;
      goes_on = store_goes_on_then _ _ _ c.loop-file.invariant.goes_on c.read_file.ensures.store_goes_on;
    }
