-- The numbers of the write policies.
-- Assumes nothing.
use Rattle.std.specs.Prelude.{ℕ}
use Rattle.model.specs.Names.{write_back, write_through}
use Rattle.host.specs.declared.WritePolicy.{WritePolicy}
use Rattle.host.specs.declared.WritePolicy.TheVariants.{Back, Through}

abbrev pub policy_number : WritePolicy → ℕ
policy_number Back = write_back
policy_number Through = write_through
