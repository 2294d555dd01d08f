mod Updates
mod Roads
