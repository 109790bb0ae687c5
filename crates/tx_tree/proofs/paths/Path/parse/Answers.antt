use Rattle.std.proofs.Common.{◌≡◌, ◌≤◌, length, [], sym, ap, subst, ◌∙◌, arith}
use Rattle.std.proofs.lemmas.List.{nil_from_length}
use Rattle.tx_tree.specs.PathSpelling.{SpellsPath}
use Rattle.tx_tree.specs.PathScan.{path_state, reading}
use Rattle.tx_tree.proofs.PathReading.{run_more, stops_at, ends_at_start, ends_at_slash, read_path, read_root}
use Rattle.tx_tree.proofs.PathReading.{whole_run}
use Rattle.tx_tree.proofs.paths.Path.parse.Goals as goal

pub returns-in-None-clause-refused : goal.returns-in-None-clause-refused
returns-in-None-clause-refused c =
    λ other. stops_at c.args.bytes.now c.loop-i.i _ c.loop-i-test.true c.loop-i.invariant
    (rw c.in-None.is at c.in_ok-next.ensures)

pub loop-i-preserved : goal.loop-i-preserved
loop-i-preserved c = run_more c.args.bytes.now c.loop-i.i _ c.loop-i-test.true c.loop-i.invariant
    ∙ (rw c.in-Some.is at c.in_ok-next.ensures)

pub returns-then-not-is_empty-clause-refused : goal.returns-then-not-is_empty-clause-refused
returns-then-not-is_empty-clause-refused c =
    let e = ap (path_state c.loop-i.path) c.in-Number-eq0-default.is in
    let there : path_state c.loop-i.path c.loop-i.place ≡ reading c.loop-i.path 0 c.in-Number-eq0-default.field-1 =
    cc in
    let some : 1 ≤ length c.loop-i.path = grind arith in
    λ other. ends_at_slash c.args.bytes.now c.loop-i.path c.in-Number-eq0-default.field-1
    (whole_run c.args.bytes.now c.loop-i.i _ _ c.loop-i-test.false c.loop-i.invariant there) some

pub returns-in-Start-clause-refused : goal.returns-in-Start-clause-refused
returns-in-Start-clause-refused c =
    λ other. ends_at_start c.args.bytes.now c.loop-i.path
    (whole_run c.args.bytes.now c.loop-i.i _ _ c.loop-i-test.false c.loop-i.invariant
    (ap (path_state c.loop-i.path) c.in-Start.is))

pub returns-else-not-is_empty-clause-ok : goal.returns-else-not-is_empty-clause-ok
returns-else-not-is_empty-clause-ok c =
    let none : length c.loop-i.path ≡ 0 = grind arith in
    let root : c.loop-i.path ≡ [] = nil_from_length c.loop-i.path none in
    let e = ap (path_state c.loop-i.path) c.in-Number-eq0-default.is in
    let there : path_state c.loop-i.path c.loop-i.place ≡ reading [] 0 c.in-Number-eq0-default.field-1 = cc in
    subst (SpellsPath c.args.bytes.now) (sym root)
    (read_root c.args.bytes.now c.in-Number-eq0-default.field-1
    (whole_run c.args.bytes.now c.loop-i.i _ _ c.loop-i-test.false c.loop-i.invariant there))

pub returns-in_ok-push-in-Number-clause-ok : goal.returns-in_ok-push-in-Number-clause-ok
returns-in_ok-push-in-Number-clause-ok c =
    let e = ap (path_state c.loop-i.path) c.in-Number.is in
    let there : path_state c.loop-i.path c.loop-i.place ≡ reading c.loop-i.path c.in-Number.field-0 c.in-Number.value =
    cc in
    let some : 1 ≤ c.in-Number.field-0 = grind arith in
    rw c.in_ok-push-in-Number.ensures.ok
    (read_path c.args.bytes.now c.loop-i.path c.in-Number.field-0 c.in-Number.value
    (whole_run c.args.bytes.now c.loop-i.i _ _ c.loop-i-test.false c.loop-i.invariant there) some)
