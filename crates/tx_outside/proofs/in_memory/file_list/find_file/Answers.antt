use Rattle.std.proofs.Common.{sym, ap, ◌∙◌, Some}
use Rattle.tx_outside.proofs.FileLookups.{file_of-at}
use Rattle.tx_outside.proofs.in_memory.file_list.find_file.Goals as goal

-- the bytes of the file at the place
pub returns-in-Some : goal.returns-in-Some
returns-in-Some c =
    let stands = c.in-Some.ensures in
    let found = file_of-at c.args.name.now c.args.files.now c.in-Some.place c.index-files-place.result stands.within
    stands.before (stands.there c.index-files-place.result) in
    ap Some (c.bytes.ensures ∙ ap (λ file. file.1) c.index-files-place.is) ∙ sym found
