-- The parts of a child, as lists.
use Rattle.ildcp_core.specs.declared.child.ChildParts.{ChildParts}
use Rattle.ildcp_core.specs.Client.{Client}

-- What the parts of a child say.
abbrev pub client_of : ChildParts → Client
client_of p = record {
  role = p.role;
  tenant = p.tenant.now;
  name = p.name.now;
  scale = p.scale;
  code = p.code.now;
}
