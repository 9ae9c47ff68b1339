pub mod Audit
pub mod InnerAudit
