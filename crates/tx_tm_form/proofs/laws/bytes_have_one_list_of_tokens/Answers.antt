use Rattle.tx_tm_form.proofs.Words.{one_token_list}
use Rattle.tx_tm_form.proofs.laws.bytes_have_one_list_of_tokens.Goals as goal

pub returns : goal.returns
returns c = one_token_list
