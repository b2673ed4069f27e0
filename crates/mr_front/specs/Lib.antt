pub mod Waiting
pub mod Lists
pub mod Layers
pub mod Children
pub mod CostLists
pub mod PutOff
pub mod Rows
pub mod Searches
