-- chmod.
-- Assumes nothing.
use Rattle.model.specs.Names.{running}
use Rattle.model.specs.State.{State}
use Rattle.model.specs.Parts.{shaped, set_mode}

-- The guest runs.
unfoldable pub chmod_step : State → State
chmod_step s = shaped s (set_mode s.shape running)
