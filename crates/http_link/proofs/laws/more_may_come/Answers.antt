use Rattle.http_link.proofs.Connections.{all_asked_more}
use Rattle.http_link.proofs.laws.more_may_come.Goals as goal

pub returns : goal.returns
returns c tenant_of bytes more questions left last h = all_asked_more tenant_of bytes more questions left last h
