mod Outcomes
mod Steps
mod Roads
