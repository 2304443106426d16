-- The texts of refusals of restoring: number, name, and each field with its value, with one blank between each two.
use Rattle.std.specs.Prelude.{ℕ, List, [], codes}
use Rattle.gl_lifting.specs.Renaming.{RestoreFault, missing, extra, net_merge, letter_changed, device_merge}
use Rattle.gl_said.specs.Texts.{numbered, named}
pub use Rattle.gl_limit.specs.Texts.{limit_text}

-- a refusal of restoring
abbrev pub fault_text : RestoreFault → List ℕ
fault_text (missing name) = named (codes "44 Missing name=") name []
fault_text (extra line) = numbered (codes "45 Extra line=") line []
fault_text (net_merge line) = numbered (codes "46 NetMerge line=") line []
fault_text (letter_changed line) = numbered (codes "47 LetterChanged line=") line []
fault_text (device_merge line) = numbered (codes "48 DeviceMerge line=") line []
