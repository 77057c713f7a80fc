-- The words of an open search are a state's. Assumes nothing.
use Rattle.lovgurshem.proofs.Laws.{open_wide}
use Rattle.lovgurshem.proofs.lovgurshem_open.Goals as goal

pub returns-in-Ok-clause-state_after : goal.returns-in-Ok-clause-state_after
returns-in-Ok-clause-state_after c = let wide = open_wide _ _ _ _ c.in-Ok.ensures in λ z. c.put_state.ensures.w_after_2 wide.0 wide.1
