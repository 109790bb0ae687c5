use Rattle.std.proofs.Common.{◌≡◌, rules, sym, Some}
use Rattle.tx_doc.specs.Versions.{version_of}
use Rattle.tx_doc.proofs.Versioning.{old_by}
use Rattle.tx_doc.proofs.versions.is_old_version.Goals as goal

pub returns-in-Some : goal.returns-in-Some
returns-in-Some c =
    let e : version_of c.args.bytes.now ≡ Some c.in-Some.numbers.items = search rules in
    rw (c.is_before_modern.ensures, c.as_slice.ensures.value) (sym (old_by c.args.bytes.now c.in-Some.numbers.items e))
