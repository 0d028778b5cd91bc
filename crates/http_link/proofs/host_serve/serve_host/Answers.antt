use Rattle.http_link.specs.Heads.{head_of}
use Rattle.http_link.specs.HostDoor.{host_wanted_of}
use Rattle.http_link.proofs.HostServing.{host_asks_once, host_only, host_served}
use Rattle.http_link.proofs.host_serve.serve_host.Goals as goal

pub returns-clause-exact : goal.returns-clause-exact
returns-clause-exact g c stream head rest e begins =
    host_served c.serve_door.result (host_wanted_of (head_of head)) rest (g.R.Read.remaining c.serve_door.new.r) _ (c.serve_door.ensures.exact stream head rest e begins)

pub returns-clause-asked_only : goal.returns-clause-asked_only
returns-clause-asked_only g c stream head rest e begins =
    host_only (host_wanted_of (head_of head)) _ _ (c.serve_door.ensures.asked_only stream head rest e begins)

pub returns-clause-asked_once : goal.returns-clause-asked_once
returns-clause-asked_once g c = host_asks_once _ _ c.serve_door.ensures.asked_once
