pub mod Ledger
pub mod LedgerSteps
pub mod Line
pub mod Name
pub mod ReportText
pub mod Cause
