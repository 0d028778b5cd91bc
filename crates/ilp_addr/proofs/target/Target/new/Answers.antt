use Rattle.ilp_addr.proofs.target.Target.new.Goals as goal

pub returns-in_default-clause-target : goal.returns-in_default-clause-target
returns-in_default-clause-target c = λ t is. c.in_default.ensures.names t.host t.port is.names
