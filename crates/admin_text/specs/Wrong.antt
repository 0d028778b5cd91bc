-- The exit status of what is wrong with a setup.
use Rattle.std.specs.Prelude.{Result, Ok, Err}
use Rattle.common_types.specs.declared.read_error.ReadError.{ReadError}
use Rattle.common_types.specs.declared.read_error.ReadError.TheVariants.{Memory, Fault}
use Rattle.admin_text.specs.declared.setup.SetupFault.{SetupFault}
use Rattle.admin_text.specs.declared.setup.SetupFault.TheVariants.{Version, Start, Tenant}
use Rattle.admin_text.specs.declared.wrong.SetupWrong.{SetupWrong}
use Rattle.admin_text.specs.declared.wrong.SetupWrong.TheVariants.{AtVersion, AtStart, NoTenants, OneTooMany, InTenant}

-- its fault
abbrev pub setup_fault_of : SetupWrong → SetupFault
setup_fault_of (AtVersion wrong) = Version
setup_fault_of (AtStart wrong) = Start
setup_fault_of (NoTenants wrong) = Tenant 0
setup_fault_of (OneTooMany number) = Tenant number
setup_fault_of (InTenant tenant wrong) = Tenant tenant.number

-- what was read, or the fault
abbrev pub fault_alone : {X : Type 0} → Result X (ReadError SetupWrong) → Result X (ReadError SetupFault)
fault_alone (Ok x) = Ok x
fault_alone (Err Memory) = Err Memory
fault_alone (Err (Fault wrong)) = Err (Fault (setup_fault_of wrong))
