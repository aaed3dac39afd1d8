pub mod RecordLaws
pub mod Scan
pub mod ScanLaws
