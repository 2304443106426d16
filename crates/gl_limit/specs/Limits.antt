-- Which limit a limit of the code is.
use Rattle.gl_lifting.specs.OutLimits as limits
use Rattle.gl_limit.specs.declared.limit.OutLimit.{OutLimit}
use Rattle.gl_limit.specs.declared.limit.OutLimit.TheVariants as passed

-- the limit of the definitions
abbrev pub limit_value : OutLimit → limits.OutLimit
limit_value passed.Name = limits.of_name
limit_value passed.Cards = limits.of_cards
limit_value passed.LiftedText = limits.of_lifted_text
limit_value passed.LiftedFlat = limits.of_lifted_flat
limit_value passed.MapText = limits.of_map_text
limit_value passed.ReportText = limits.of_report_text
