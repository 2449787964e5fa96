use Rattle.ms_record.proofs.law.chain_laws.Goals as goal

pub returns : goal.returns
returns c = record {
  agrees = c.masters_agree.ensures.one;
  begins = c.one_chain.ensures.begins;
  one_list = c.one_chain.ensures.one_list;
  stands = c.one_chain.ensures.stands;
  none = c.one_chain.ensures.none;
  chosen = c.one_chain.ensures.chosen;
  goes_on = c.one_chain.ensures.goes_on;
  found = c.one_chain.ensures.found;
  read = c.one_spelling.ensures.again;
}
