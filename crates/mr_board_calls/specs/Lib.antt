pub mod Menders
