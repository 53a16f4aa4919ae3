pub mod ReportCrossing
