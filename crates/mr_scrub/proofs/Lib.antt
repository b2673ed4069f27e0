pub mod Duals
pub mod CodewordLaws
pub mod CheckLaws
pub mod FaultLaws
pub mod ScanLaws
pub mod ScrubLaws
