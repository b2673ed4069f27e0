mod Views
mod Keeps
