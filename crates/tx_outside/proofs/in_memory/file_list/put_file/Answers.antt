use Rattle.std.proofs.Common.{ap, ◌∙◌}
use Rattle.tx_outside.proofs.FileLookups.{WithFile-set, NamesDiffer-put, WithFile-push, NamesDiffer-added}
use Rattle.tx_outside.proofs.in_memory.file_list.put_file.Goals as goal

pub returns-in-Some-clause-ok : goal.returns-in-Some-clause-ok
returns-in-Some-clause-ok c =
    WithFile-set _ _ _ _ _ _ _ c.deref.ensures.value c.in-Some.ensures c.index_mut.ensures.value
    (c.set_bytes.ensures ∙ ap (λ bytes. (c.index_mut.result.now.0, bytes)) c.in_ok-bytes.ensures.items)

pub returns-in-Some-clause-names_differ : goal.returns-in-Some-clause-names_differ
returns-in-Some-clause-names_differ c =
    NamesDiffer-put _ _ _ _ _ _ _ c.deref.ensures.value c.in-Some.ensures c.index_mut.ensures.value
    (c.set_bytes.ensures ∙ ap (λ bytes. (c.index_mut.result.now.0, bytes)) c.in_ok-bytes.ensures.items) c.requires

pub returns-in_ok-push-in-None-clause-ok : goal.returns-in_ok-push-in-None-clause-ok
returns-in_ok-push-in-None-clause-ok c =
    let made = c.new.ensures ∙ ap (λ name. (name, c.in_ok-bytes.bytes.items)) c.in_ok-name-in-None.ensures.items
    ∙ ap (λ bytes. (c.args.name.now, bytes)) c.in_ok-bytes.ensures.items in
    WithFile-push _ _ _ _ _ _ c.deref.ensures.value c.in-None.ensures made c.in_ok-push-in-None.ensures.items

pub returns-in_ok-push-in-None-clause-names_differ : goal.returns-in_ok-push-in-None-clause-names_differ
returns-in_ok-push-in-None-clause-names_differ c =
    let made = c.new.ensures ∙ ap (λ name. (name, c.in_ok-bytes.bytes.items)) c.in_ok-name-in-None.ensures.items
    ∙ ap (λ bytes. (c.args.name.now, bytes)) c.in_ok-bytes.ensures.items in
    NamesDiffer-added _ _ _ _ _ _ c.deref.ensures.value c.in-None.ensures made c.in_ok-push-in-None.ensures.items
    c.requires
