use Rattle.std.proofs.Common.{rules}
use Rattle.admin_text.proofs.Texts.{document_in-document, document_in-refused, setup_of-document, setup_of-refused}
use Rattle.admin_text.proofs.setup.document_of.Goals as goal

pub returns-in-Ok-clause-setup : goal.returns-in-Ok-clause-setup
returns-in-Ok-clause-setup c = setup_of-document c.args.text.now _ c.in-Ok.ensures.ok.0 c.in-Ok.ensures.ok.1

pub returns-in-Ok-clause-document : goal.returns-in-Ok-clause-document
returns-in-Ok-clause-document c = document_in-document c.args.text.now _ c.in-Ok.ensures.ok.0 c.in-Ok.ensures.ok.1

pub returns-in-Err-2-clause-setup : goal.returns-in-Err-2-clause-setup
returns-in-Err-2-clause-setup c = λ _. setup_of-refused c.args.text.now (c.in-Err-2.ensures.refused (search rules))

pub returns-in-Err-2-clause-document : goal.returns-in-Err-2-clause-document
returns-in-Err-2-clause-document c = λ _. document_in-refused c.args.text.now (c.in-Err-2.ensures.refused (search rules))
