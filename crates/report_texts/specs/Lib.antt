pub mod Shown
pub mod LongText
pub mod FileText
pub mod ReportText
pub mod CheckLines
