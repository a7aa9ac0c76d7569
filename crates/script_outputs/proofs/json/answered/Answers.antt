use Rattle.script_outputs.proofs.json.answered.Goals as goal

pub returns : goal.returns
returns g c = record {
  reading = c.in_ok-reading.reading;
  reply = c.in_ok-reply.reply;
  read = c.in_ok-reading.ensures;
  replied = c.in_ok-reply.ensures.reply;
  told = c.in_ok-text.ensures;
  refuses = c.is_refusal.ensures;
}
