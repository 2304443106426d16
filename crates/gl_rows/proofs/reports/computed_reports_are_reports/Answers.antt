use Rattle.gl_rows.proofs.ReportLaws.{report_is}
use Rattle.gl_rows.proofs.reports.computed_reports_are_reports.Goals as goal

pub returns : goal.returns
returns c = record { report = report_is }
