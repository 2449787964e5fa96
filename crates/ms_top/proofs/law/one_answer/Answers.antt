use Rattle.ms_top.proofs.Alike.{alike}
use Rattle.ms_top.proofs.law.one_answer.Goals as goal

pub returns : goal.returns
returns c = λ command texts old new other before after first last status again told a b judged also.
    alike c.one_audit.ensures (record {
      step = c.one_outcome.ensures.step;
      refusal = c.one_outcome.ensures.refusal;
      apart = c.one_outcome.ensures.apart;
      agrees = c.every_run.ensures.agrees;
      one_list = c.one_chain.ensures.one_list;
    }) command old texts told new other before after first last status again a b judged also
