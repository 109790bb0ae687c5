use Rattle.tx_session.proofs.Plainly.{plain_done, plain_refusal, plain_told}
use Rattle.tx_session.proofs.replies.replies_tell_marks.Goals as goal

pub returns-clause-done : goal.returns-clause-done
returns-clause-done c = plain_done

pub returns-clause-refused : goal.returns-clause-refused
returns-clause-refused c = plain_refusal

pub returns-clause-told : goal.returns-clause-told
returns-clause-told c = plain_told
