pub mod Origins
pub mod MonitorEntries
