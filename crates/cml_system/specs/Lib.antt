pub mod Systems
pub mod Files
