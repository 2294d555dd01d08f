mod Factor
mod Downdates
mod Ways
