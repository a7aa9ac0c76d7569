use Rattle.report_json.proofs.Words.{reply_back}
use Rattle.report_json.proofs.laws.a_reader_gets_the_reply_back.Goals as goal

pub returns : goal.returns
returns c = reply_back
