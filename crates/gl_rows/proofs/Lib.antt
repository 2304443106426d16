mod SourceLaws
mod ReportLaws
