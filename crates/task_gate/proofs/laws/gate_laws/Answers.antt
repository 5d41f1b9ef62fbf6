use Rattle.task_gate.proofs.GateLaws as laws
use Rattle.task_gate.proofs.laws.gate_laws.Goals as goal

pub returns : goal.returns
returns c = record { histories = laws.histories; claims = laws.claims; passes = laws.passes }
