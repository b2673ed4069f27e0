pub mod LostSymbols
